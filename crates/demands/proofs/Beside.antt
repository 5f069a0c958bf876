-- The older book's walk beside the newer's: block by block it sees what the newer sees.
use mathlib.Core.Path.{◌∙◌, ◌≡◌, ap, refl, subst, sym}
use mathlib.Core.Bool.{Bool, false, false≢true, true}
use mathlib.Core.List.{List, [], ◌++◌, ◌∷◌, map}
use Prim.Native.Nat.{◌+◌, ◌<◌, ◌≤◌, suc, zero, ℕ}
use native.Mathlib.Omega.{arith}
use lib.Dec.{leb}
use lib.ListN.{length, take}
use Rattle.layout.specs.Result.{Result, done, when◌then◌else◌}
use Rattle.layout.specs.Lists.{beside}
use Rattle.layout.specs.Book.{Data, Field, Format, Groups, Shape, data_sinces, group_sinces, more, none, present}
use Rattle.layout.specs.Values.{Values, entry, group, nil}
use Rattle.layout.specs.Message.{Dimension, Entry, dimension_size, in_row, inside, read_block, read_datas, read_entries}
use Rattle.layout.specs.Message.{read_field, read_group, read_groups, skip_datas, skip_entry, skip_group, surplus}
use Rattle.layout.specs.Extension.{AddedGroups, AddsDatas, ExtendsFields, ExtendsGroups, ExtendsShape}
use Rattle.demands.proofs.Kept.{kept, kept_fields}
use Rattle.demands.proofs.Needs.{all_added, count_beside, count_whole, grown_datas, grown_groups, need_extends}
use Rattle.demands.proofs.Needs.{present_added, present_datas}
use Rattle.demands.proofs.Sees.{Sees, seen_done, sees_after, sees_bind, sees_change, sees_done, sees_leb}
use Rattle.demands.proofs.Sees.{sees_map, sees_must, sees_past, sees_pick, sees_same, sees_test, sees_then}
use Rattle.demands.proofs.Sees.{sees_unless}
use Rattle.layout.proofs.ListLaws.{beside_twice, read_beside}
use Rattle.layout.proofs.Present.{GoodGroups, GoodShape, UpTo, groups_in_lem}
use Rattle.layout.proofs.Results.{and_both, and_left, and_right, bind_done, done_inj, each_way, inv_bind, inv_both}
use Rattle.layout.proofs.Results.{inv_must}
use Rattle.layout.specs.declared.Answer.{Answer}
use Rattle.layout.specs.declared.Answer.TheVariants.{Absent, Group}

-- what is kept of a block, of a row and of a group
abbrev pub kept_block : Shape → Groups → Entry → Entry
kept_block s gs b = (kept_fields s.fields b.0, kept s gs b.1, take (length s.datas) b.2, b.3)

abbrev pub kept_row : Shape → Groups → (Values × ℕ) → Values × ℕ
kept_row s gs r = (kept s gs r.0, r.1)

abbrev pub kept_group : Shape → Groups → (Answer × Values × ℕ) → Answer × Values × ℕ
kept_group s gs g = (g.0, kept s gs g.1, g.2)

abbrev pub kept_datas : List Data → (List Answer × ℕ) → List Answer × ℕ
kept_datas old d = (take (length old) d.0, d.1)

-- and where each leads to
abbrev block_end : Entry → ℕ
block_end b = b.3

abbrev row_end : (Values × ℕ) → ℕ
row_end r = r.1

abbrev group_end : (Answer × Values × ℕ) → ℕ
group_end g = g.2

abbrev datas_end : (List Answer × ℕ) → ℕ
datas_end d = d.1

module _ (big : Bool) (m : List ℕ) (v : ℕ) (strict : Bool) where
  sees_entries : (s : Shape) (gs : Groups) (n : ℕ) (f f' : ℕ → Result Entry) (at : ℕ)
      → ((x : ℕ) → Sees strict (kept_block s gs) (f x) (f' x))
      → Sees strict (kept_row s gs) (read_entries n f at) (read_entries n f' at)
  unfolding read_entries kept
  sees_entries s gs zero f f' at h = sees_done strict _ (nil, at) _ refl
  sees_entries s gs (suc n) f f' at h =
      sees_bind strict (kept_block s gs) _ _ _ _ _ (h at) λ b.
      sees_bind strict (kept_row s gs) _ _ _ _ _ (sees_entries s gs n f f' b.3 h) λ r.
      sees_done strict _ (entry b.0 b.1 b.2 r.0, r.1) _ refl

  -- ---- data

  -- Data that the newer book knows are skipped as surplus.
  skips_datas : (ds : List Data) (n n' at : ℕ) → n ≡ n' + present v (data_sinces ds)
      → Sees strict datas_end (skip_datas big m n at) (read_datas big m v ds n' at)
  unfolding read_datas in_row present when◌then◌else◌
  skips_datas [] n n' at e =
      let q : n ≡ n' = omega arith in
      rw q (sees_after strict (λ (x : ℕ). x) datas_end _ _ (λ x. ([], x)) (sees_same strict _) λ x. refl)
  skips_datas (d ∷ ds) n n' at e =
      let rest = n' + present v (data_sinces ds) in
      each_way (leb d.since v)
      (λ t. let q : n ≡ suc rest = omega (arith, rw t at e) in
      rw (t, q) (sees_bind strict (λ (x : Answer × ℕ). x.1) _ _ _ _ _
      (sees_map strict (λ (x : Answer × ℕ). x) (λ (x : Answer × ℕ). x.1) _ _ (sees_same strict _)) λ x.
      sees_after strict datas_end datas_end _ _ _ (skips_datas ds rest n' x.1 refl) λ r. refl))
      (λ t. let q : n ≡ rest = omega (arith, rw t at e) in
      rw (t, bind_done) (sees_after strict datas_end datas_end _ _ _ (skips_datas ds n n' at q) λ r. refl))

  sees_datas : (old added : List Data) (n n' at : ℕ) → n ≡ n' + present v (data_sinces added)
      → Sees strict (kept_datas old) (read_datas big m v old n at) (read_datas big m v (old ++ added) n' at)
  unfolding read_datas
  sees_datas [] added n n' at e =
      sees_map strict datas_end (λ (x : ℕ). ([], x)) _ _ (skips_datas added n n' at e)
  sees_datas (d ∷ old) added n n' at e =
      sees_bind strict (λ (x : Answer × ℕ). x) (kept_datas (d ∷ old)) _ _ _ _ (sees_same strict _) λ x.
      sees_bind strict (kept_datas old) (kept_datas (d ∷ old)) _ _ _ _ (sees_datas old added n n' x.1 e) λ r.
      sees_done strict _ (x.0 ∷ r.0, r.1) _ refl

  -- ---- a block

  module _ (limit : ℕ) where
    kept_fields_lem : (at : ℕ) (old new : List Field) → ExtendsFields limit old new
        → map (read_field big m v at) old ≡ kept_fields old (map (read_field big m v at) new)
    unfolding ExtendsFields kept_fields
    kept_fields_lem at [] new x = refl
    kept_fields_lem at (f ∷ fs) [] x = absurd x
    kept_fields_lem at (f ∷ fs) (f' ∷ fs') x =
        let k = x.0 in
        let is = read_beside f.names f'.names (beside_twice f.names f'.names k.names) big m v at f
        ∙ ap (λ (g : Field). beside f.names (read_field big m v at g)) (sym k.words) in
        rw (is, kept_fields_lem at fs fs' x.1) refl

    pub sees_block : (s s' : Shape) (gs : Groups) (f f' : ℕ → Result (Values × ℕ)) (n n' l at : ℕ)
        (a : ExtendsFields limit s.fields s'.fields)
        (d : AddsDatas limit s.datas s'.datas)
        → n + present v (data_sinces s.datas) ≡ n' + present v (data_sinces s'.datas)
        → ((x : ℕ) → Sees strict (kept_row s gs) (f x) (f' x))
        → Sees strict (kept_block s gs) (read_block big m v s f n l at) (read_block big m v s' f' n' l at)
    unfolding read_block
    sees_block s s' gs f f' n n' l at a d e h =
        let q : n ≡ n' + present v (data_sinces d.added) =
        omega (arith, present_datas v limit s.datas s'.datas d) in
        sees_bind strict (λ (u : Unit {0}). u) (kept_block s gs) _ _ _ _ (sees_same strict _) λ _.
        sees_bind strict (kept_row s gs) (kept_block s gs) _ _ _ _ (h (at + l)) λ r.
        sees_bind strict (kept_datas s.datas) (kept_block s gs) _ _ _ _
        (rw d.first (sees_datas s.datas d.added n n' r.1 q)) λ t.
        sees_done strict (kept_block s gs) (map (read_field big m v at) s'.fields, r.0, t.0, t.1) _
        (rw (kept_fields_lem at s.fields s'.fields a) refl)

-- ---- groups that the newer book knows are skipped as surplus

-- Groups that have neither groups nor data.
unfoldable Plain : Groups → Type 0
Plain none = Unit {0}
Plain (more i since s inner rest) = (inner ≡ none) × (s.datas ≡ []) × Plain rest

module _ (counted : Bool) (version : ℕ) (big : Bool) (m : List ℕ) (v : ℕ) where
  skips_entries : (n : ℕ) (f : ℕ → Result ℕ) (f' : ℕ → Result Entry) (at : ℕ)
      → ((x : ℕ) → Sees false block_end (f x) (f' x))
      → Sees false row_end (in_row n f at) (read_entries n f' at)
  unfolding in_row read_entries
  skips_entries zero f f' at h = sees_done false row_end (nil, at) _ refl
  skips_entries (suc n) f f' at h =
      sees_bind false block_end row_end _ _ _ _ (h at) λ b.
      sees_after false row_end row_end _ _ _ (skips_entries n f f' b.3 h) λ r. refl

  skips_block : (s : Shape) (f : ℕ → Result ℕ) (f' : ℕ → Result (Values × ℕ)) (n : ℕ) (d : Dimension) (place at : ℕ)
      → ((x : ℕ) → Sees false row_end (in_row d.groups f x) (f' x)) → d.datas ≡ n + present v (data_sinces s.datas)
      → Sees false block_end (skip_entry big m f d place at) (read_block big m v s f' n d.length at)
  unfolding skip_entry read_block
  skips_block s f f' n d place at h e =
      sees_bind false (λ (u : Unit {0}). u) block_end _ _ _ _ (sees_test _ _ _ _ _) λ _.
      sees_bind false row_end block_end _ _ _ _ (h (at + d.length)) λ r.
      sees_after false datas_end block_end _ _ _ (skips_datas big m v false s.datas d.datas n r.1 e) λ t. refl

  skips_group : (s : Shape) (inner : Groups) (f : ℕ → ℕ → Result (Values × ℕ)) (levels at : ℕ)
      → (counted ≡ false → (inner ≡ none) × (s.datas ≡ [])) → 1 ≤ levels
      → ((n n' x : ℕ) → n ≡ n' + present v (group_sinces inner)
      → Sees false row_end (in_row n (skip_group counted big m (inside levels)) x) (f n' x))
      → Sees false group_end (skip_group counted big m levels at) (read_group counted version big m v s
      (group_sinces inner) f at)
  unfolding skip_group read_group present group_sinces
  skips_group s inner f zero at plain h ih = absurd (omega arith)
  skips_group s inner f (suc levels) at plain h ih =
      let groups = group_sinces inner in
      let datas = data_sinces s.datas in
      sees_bind false (λ (d : Dimension). d) group_end _ _ _ _ (sees_same false _) λ d.
      sees_past group_end _ _ _ λ _ _.
      sees_past group_end _ _ _ λ _ counts.
      let good = inv_must _ _ _ _ counts in
      sees_after false row_end group_end _ _ _
      (skips_entries d.entries _ _ (at + dimension_size counted) λ x.
      skips_block s (skip_group counted big m levels) _ (surplus v datas d.datas) d at x
      (λ y. ih d.groups (surplus v groups d.groups) y
      (count_whole counted version v groups d.groups
      (λ c. ap (λ (gs : Groups). present v (group_sinces gs)) (plain c).0) (and_left _ _ good)))
      (count_whole counted version v datas d.datas
      (λ c. ap (λ (ds : List Data). present v (data_sinces ds)) (plain c).1) (and_right _ _ good))) λ r. refl

  -- A row of n groups; if strict, none of those that the newer book knows is present.
  skips_groups : (strict : Bool) (new : Groups) (levels n n' at : ℕ) → (counted ≡ false → Plain new)
      → GoodGroups version levels new → (strict ≡ true → present v (group_sinces new) ≡ 0)
      → n ≡ n' + present v (group_sinces new)
      → Sees strict row_end (in_row n (skip_group counted big m levels) at)
      (read_groups counted version big m v new levels n' at)
  unfolding in_row read_groups Plain GoodGroups present group_sinces when◌then◌else◌
  skips_groups strict none levels n n' at plain good z e =
      let q : n ≡ n' = omega arith in
      rw q (sees_after strict (λ (x : ℕ). x) row_end _ _ (λ x. (nil, x)) (sees_same strict _) λ x. refl)
  skips_groups strict (more i since s inner rest) levels n n' at plain good z e =
      let left = n' + present v (group_sinces rest) in
      let one = skips_group s inner (read_groups counted version big m v inner (inside levels)) levels at
      (λ c. ((plain c).0, (plain c).1)) good.0.above
      (λ k k' x q. skips_groups false inner (inside levels) k k' x (λ c. subst Plain (sym (plain c).0) tt) good.1
      (λ y. absurd (false≢true y)) q) in
      each_way (leb since v)
      (λ t. let q : n ≡ suc left = omega (arith, rw t at e) in
      rw (t, q) (sees_bind strict group_end row_end _ _ _ _
      (sees_unless strict group_end _ _ (λ y. omega (arith, rw t at (z y)))
      (λ a. seen_done false group_end _ _ a one)) λ g.
      sees_after strict row_end row_end _ _ _ (skips_groups strict rest levels left n' g.2 (λ c. (plain c).2) good.2
      (λ y. omega (arith, rw t at (z y))) refl) λ r. refl))
      (λ t. let q : n ≡ left = omega (arith, rw t at e) in
      rw (t, bind_done) (sees_after strict row_end row_end _ _ _
      (skips_groups strict rest levels n n' at (λ c. (plain c).2) good.2 (λ y. omega (arith, rw t at (z y))) q)
      λ r. refl))

  -- A row of groups holds no entries.
  added_kept : (s : Shape) (new : Groups) (levels n at : ℕ) (r : Values × ℕ)
      → read_groups counted version big m v new levels n at ≡ done r
      → (nil, r.1) ≡ kept_row s none r
  unfolding read_groups kept
  added_kept s none levels n at r e =
      let i = inv_bind _ _ _ e in
      let q : (nil, i.value) ≡ r = done_inj i.next in
      rw (← q) refl
  added_kept s (more i since sh inner rest) levels n at r e =
      let p = inv_both _ _ _ _ e in
      let q : (group p.value.0 p.value.1 p.other.0, p.other.1) ≡ r = p.is in
      rw (← q) refl

-- ---- the older book's groups beside the newer's

module _ (format : Format) (vo vn : ℕ) (newer : vo < vn) (m : List ℕ) (v : ℕ) (strict : Bool)
    (early : strict ≡ true → v ≤ vo) where
  abbrev counted : Bool
  counted = format.in_groups

  abbrev big : Bool
  big = format.big

  added_plain : (new : Groups) → AddedGroups vo format new → counted ≡ false → Plain new
  unfolding AddedGroups Plain
  added_plain none x c = tt
  added_plain (more i since s inner rest) x c = (x.0.no_groups c, x.0.no_datas c, added_plain rest x.1 c)

  sees_group : (s s' : Shape) (inner inner' : Groups) (f f' : ℕ → ℕ → Result (Values × ℕ)) (at : ℕ)
      → ExtendsShape vo format counted s s' → ExtendsGroups vo format counted inner inner'
      → GoodShape vo s → GoodShape vn s' → UpTo vo (group_sinces inner)
      → ((n n' x : ℕ) → n + present v (group_sinces inner) ≡ n' + present v (group_sinces inner')
      → Sees strict (kept_row s inner) (f n x) (f' n' x))
      → Sees strict (kept_group s inner) (read_group counted vo big m v s (group_sinces inner) f at)
      (read_group counted vn big m v s' (group_sinces inner') f' at)
  unfolding read_group
  sees_group s s' inner inner' f f' at x y good good' groups_in h =
      sees_bind strict (λ (d : Dimension). d) (kept_group s inner) _ _ _ _ (sees_same strict _) λ d.
      let groups = count_beside counted vo vn v (group_sinces inner) (group_sinces inner') d.groups newer groups_in
      (grown_groups v vo format counted inner inner' y) in
      let datas = count_beside counted vo vn v (data_sinces s.datas) (data_sinces s'.datas) d.datas newer
      good.datas_in (grown_datas v vo format counted s s' x) in
      sees_bind strict (λ (u : Unit {0}). u) (kept_group s inner) _ _ _ _
      (sees_leb strict _ _ _ _ _
      (need_extends v vo strict s'.length s.fields s'.fields x.fields good'.fields early)) λ _.
      sees_then strict (λ (u : Unit {0}). u) (kept_group s inner) _ _ _ _
      (sees_must strict _ _ _ _
      (λ e. and_both (groups.older (and_left _ _ e)) (datas.older (and_right _ _ e)))
      (λ e. rw (groups.same (early e), datas.same (early e)) refl)) λ _ q.
      let counts = inv_must _ _ _ _ q in
      sees_bind strict (kept_row s inner) (kept_group s inner) _ _ _ _
      (sees_entries big m v strict s inner d.entries _ _ (at + dimension_size counted) λ z.
      sees_block big m v strict vo s s' inner _ _ _ _ d.length z x.fields x.datas
      (datas.whole (and_right _ _ counts)) λ a.
      h _ _ a (groups.whole (and_left _ _ counts))) λ r.
      sees_done strict (kept_group s inner) (Group d.entries, r.0, r.1) _ refl

  pub sees_groups : (grows : Bool) (old new : Groups) (s₀ : Shape) (levels n n' at : ℕ)
      → ExtendsGroups vo format grows old new → GoodGroups vo levels old → GoodGroups vn levels new
      → n + present v (group_sinces old) ≡ n' + present v (group_sinces new)
      → Sees strict (kept_row s₀ old) (read_groups counted vo big m v old levels n at)
      (read_groups counted vn big m v new levels n' at)
  unfolding read_groups ExtendsGroups GoodGroups present group_sinces kept
  sees_groups grows none new s₀ levels n n' at x good good' e =
      let added = all_added v vo format grows new x in
      sees_change strict (λ (r : Values × ℕ). (nil, r.1)) (kept_row s₀ none) _ _
      (sees_map strict row_end (λ (y : ℕ). (nil, y)) _ _
      (skips_groups counted vn big m v strict new levels n n' at (added_plain new added) good'
      (λ y. present_added v vo format new added (early y)) (omega arith)))
      (added_kept counted vn big m v s₀ new levels n' at)
  sees_groups grows (more i since s inner rest) none s₀ levels n n' at x good good' e = absurd x
  sees_groups grows (more i since s inner rest) (more i' since' s' inner' rest') s₀ levels n n' at x good good' e =
      let same : ◌≡◌ {A = ℕ} (when leb since v then 1 else 0) (when leb since' v then 1 else 0) = rw x.same_since in
      sees_bind strict (kept_group s inner) (kept_row s₀ (more i since s inner rest)) _ _ _ _
      (rw x.same_since
      (sees_pick strict (kept_group s inner) (leb since' v) _ _ _ _
      (sees_group s s' inner inner' _ _ at x.shape x.inner good.0.shape good'.0.shape
      (groups_in_lem vo (inside levels) inner good.1) λ k k' y q.
      sees_groups counted inner inner' s (inside levels) k k' y x.inner good.1 good'.1 q)
      (sees_done strict (kept_group s inner) (Absent, nil, at) _ refl))) λ r.
      sees_bind strict (kept_row s₀ rest) (kept_row s₀ (more i since s inner rest)) _ _ _ _
      (sees_groups grows rest rest' s₀ levels n n' r.2 x.rest good.2 good'.2 (omega (arith, same))) λ t.
      sees_done strict _ (group r.0 r.1 t.0, t.1) _ refl
