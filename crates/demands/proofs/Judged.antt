-- The second round trip, its listing: the listing of a message's tree is judged to be that tree.
use mathlib.Core.Path.{◌∙◌, ◌≡◌, refl, subst, sym}
use mathlib.Core.Bool.{Bool, false, true}
use mathlib.Core.List.{List, [], ◌++◌, ◌∷◌, map}
use Prim.Native.Nat.{◌*◌, ◌+◌, ◌≤◌, suc, zero, ℕ}
use native.Mathlib.Nat.{le_refl}
use native.Mathlib.Omega.{arith}
use lib.Dec.{eqb}
use lib.ListN.{drop, length, take}
use borrow.Author.Tests.{eq-eqb, le-leb, leb-true, lt-ltb}
use Rattle.layout.specs.Result.{Each, Result, ◌and◌, done, when◌then◌else◌}
use Rattle.layout.specs.Octets.{null16, number16, number_at, text_length}
use Rattle.layout.specs.Types.{TypeRow, classify, in_range, type_at, value_of}
use Rattle.layout.specs.Lists.{beside}
use Rattle.layout.specs.Book.{Data, Field, Groups, Shape, Template, data_sinces, end, field_sinces, is_array, is_char}
use Rattle.layout.specs.Book.{is_optional, more, need, need_after, none}
use Rattle.layout.specs.BookRules.{fields_good, length_good}
use Rattle.layout.specs.Values.{Values, entry, listing, nil, record_of, records_of}
use Rattle.layout.specs.Message.{Entry, array_at, dimension_size, inside, read_block, read_data, read_datas, read_entries}
use Rattle.layout.specs.Message.{read_field, read_groups}
use Rattle.layout.specs.Writing.{judge_array, judge_block, judge_data, judge_datas, judge_entries, judge_field}
use Rattle.layout.specs.Writing.{judge_fields, judge_groups, judge_listing, judge_number, judge_octets, judge_text, text_fits}
use Rattle.layout.specs.Writing.{third}
use Rattle.layout.specs.Demands.{AllSound, Sound}
use Rattle.demands.proofs.Judging.{Judges, all_judged, block_next, datas_next, datas_stop, entries_next}
use Rattle.demands.proofs.Judging.{entries_stop, fields_next, fields_stop, groups_next, groups_stop, null_judged}
use Rattle.demands.proofs.Judging.{null_text_judged, number_judged, octets_judged, record_is}
use Rattle.demands.proofs.Needs.{need_grows}
use Rattle.demands.proofs.Read.{data_read_lem, datas_read_lem, group_read_lem}
use Rattle.demands.proofs.Reread.{no_datas_lem, no_groups_lem}
use Rattle.layout.proofs.ListLaws.{beside_listed, sound_listed}
use Rattle.layout.proofs.Fields.{field_good_lem, size_array}
use Rattle.layout.proofs.Present.{GoodGroups, GoodShape, UpTo}
use Rattle.layout.proofs.Records.{record_three}
use Rattle.layout.proofs.Results.{and_left, done_inj, inv_bind, inv_must}
use Rattle.layout.proofs.Texts.{text_again, text_within}
use Rattle.layout.proofs.Stands.{Stands, all_stands, split_to}
use Rattle.layout.proofs.TypeLaws.{inside_not_null}
use Rattle.layout.specs.declared.Answer.{Answer}
use Rattle.layout.specs.declared.Answer.TheVariants.{Null, Number, Octets, OutOfRange}

module _ (big : Bool) (l m : List ℕ) (v : ℕ) where
  -- ---- fields

  class_judged : (f : Field) (i x to : ℕ) → let a = beside f.names (classify (type_at f.type) (is_optional f) x) in
      Sound a → Stands l (3 * i) (record_of a) to → judge_number l f i ≡ done a
  unfolding classify when◌then◌else◌ beside Sound
  class_judged f i x to sound s = go (is_optional f and eqb x k.null) refl (in_range k x) refl sound s
    where
      k : TypeRow
      k = type_at f.type

      go : (b : Bool) → (is_optional f and eqb x k.null) ≡ b → (c : Bool) → in_range k x ≡ c
          → let a = beside f.names (when b then Null else when c then Number x else OutOfRange x) in
          Sound a → Stands l (3 * i) (record_of a) to → judge_number l f i ≡ done a
      go true e c o sound s = null_judged l m f i to (and_left _ _ e) s
      go false e true o sound s =
          let y = sound_listed f.names x sound in
          let q = beside_listed f.names x y in
          rw q (number_judged l m f i x to o (inside_not_null f.type x o) y (rw q at s))
      go false e false o sound s = absurd sound

  text_judged : (f : Field) (i p to : ℕ) → let n = text_length (take f.length (drop p m)) in
      p + f.length ≤ length m → (is_optional f and eqb n 0) ≡ false → Stands l (3 * i) (record_of (Octets p n)) to
      → judge_text l m f i ≡ done (Octets p n)
  unfolding when◌then◌else◌ ◌and◌
  text_judged f i p to h e s =
      let n = text_length (take f.length (drop p m)) in
      let short = text_within f.length (drop p m) in
      let r = record_is l m i 2 p n to (unfold record_of in s) in
      let fits : text_fits l m f i ≡ true = rw (
        r.is₂,
        r.is₃,
        le-leb n f.length short,
        eq-eqb _ _ (text_again f.length (drop p m)),
        e,
      ) refl in
      rw r.is₁ (octets_judged l m _ i p n to fits (omega arith) s)

  array_judged : (f : Field) (i p to : ℕ) → p + f.length ≤ length m → Stands l (3 * i) (record_of (array_at m p f)) to
      → judge_array l m f i ≡ done (array_at m p f)
  unfolding array_at judge_array when◌then◌else◌
  array_judged f i p to h s = go (is_char f) (is_optional f and eqb n 0) refl s
    where
      n : ℕ
      n = text_length (take f.length (drop p m))

      go : (c b : Bool) → (is_optional f and eqb n 0) ≡ b
          → let a = when c then (when b then Null else Octets p n) else Octets p f.length in
          Stands l (3 * i) (record_of a) to
          → (when c then judge_text l m f i else judge_octets l m (eqb (third l i) f.length) i) ≡ done a
      go true true e s = null_text_judged l m f i to (and_left _ _ e) s
      go true false e s = text_judged f i p to h e s
      go false b e s =
          let r = record_is l m i 2 p f.length to (unfold record_of in s) in
          octets_judged l m _ i p f.length to (eq-eqb _ _ r.is₃) h s

  field_judged : (f : Field) (i at to : ℕ) → length_good f ≡ true → f.since ≤ v → at + end f ≤ length m
      → Sound (read_field big m v at f)
      → Stands l (3 * i) (record_of (read_field big m v at f)) to → judge_field l m f i ≡ done (read_field big m v at f)
  unfolding read_field when◌then◌else◌
  field_judged f i at to g u h sound s =
      let q = le-leb f.since v u in
      rw q (go (is_array f) refl (rw q at sound) (rw q at s))
    where
      k : TypeRow
      k = type_at f.type

      a : Bool → Answer
      a y = when y then array_at m (at + f.offset) f else beside f.names (classify k (is_optional f)
          (value_of k (number_at big k.width m (at + f.offset))))

      go : (y : Bool) → is_array f ≡ y → Sound (a y) → Stands l (3 * i) (record_of (a y)) to
          → (when y then judge_array l m f i else judge_number l f i) ≡ done (a y)
      go true y sound s = array_judged f i (at + f.offset) to (omega (arith, size_array f g y)) s
      go false y sound s = class_judged f i _ to sound s

  fields_judged : (fs : List Field) (i at len from e to : ℕ) → fields_good len from fs ≡ true → UpTo v (field_sinces fs)
      → at + need_after v e fs ≤ length m
      → Each Sound (map (read_field big m v at) fs) → Stands l (3 * i) (records_of (map (read_field big m v at) fs)) to
      → Judges l m (judge_fields l m fs) i to (map (read_field big m v at) fs)
  unfolding Each records_of need_after when◌then◌else◌
  fields_judged [] i at len from e to g u h sound s = (i, omega (arith, s.ends), fields_stop l m i)
  fields_judged (f ∷ fs) i at len from e to g u h sound s =
      let k = field_good_lem len from f fs g in
      let a = read_field big m v at f in
      let rest = map (read_field big m v at) fs in
      let h' : at + need_after v (end f) fs ≤ length m = rw (le-leb f.since v u.0) at h in
      let o = split_to (record_of a) (records_of rest) (3 * suc i) (omega (arith, record_three a)) s in
      let within : at + end f ≤ length m = omega
      (arith, need_grows v len (end f) (end f) fs k.rest (le_refl (end f))) in
      let w = fields_judged fs (suc i) at len (end f) (end f) to k.rest u.1 h' sound.1 o.1 in (
        w.0,
        w.1,
        fields_next l m f fs i w.0 a rest
            (field_judged f i at (3 * suc i) k.length u.0 within sound.0 o.0) w.2,
      )

  -- ---- data

  data_judged : (i at to : ℕ) (a : Answer × ℕ) → read_data big m at ≡ done a → Stands l (3 * i) (record_of a.0) to
      → judge_data l m i ≡ done a.0
  data_judged i at to a e s =
      let d = data_read_lem big m v at a e in
      subst (λ (x : Answer × ℕ). Stands l (3 * i) (record_of x.0) to → judge_data l m i ≡ done x.0) d.is
      (λ o.
      let r = record_is l m i 2 (at + 2) (number16 big m at) to (unfold record_of in o) in
      octets_judged l m _ i (at + 2) (number16 big m at) to (lt-ltb (third l i) null16 (omega (arith, r.is₃, d.whole)))
      d.fits o) s

  datas_judged : (ds : List Data) (i at to : ℕ) (r : List Answer × ℕ) → UpTo v (data_sinces ds)
      → read_datas big m v ds 0 at ≡ done r
      → Stands l (3 * i) (records_of r.0) to → Judges l m (judge_datas l m ds) i to r.0
  unfolding Each records_of
  datas_judged [] i at to r u e s =
      subst (λ (x : List Answer × ℕ). Stands l (3 * i) (records_of x.0) to
      → Judges l m (judge_datas l m []) i to x.0) (done_inj (sym (no_datas_lem big m v at) ∙ e))
      (λ o. (i, omega (arith, o.ends), datas_stop l m i)) s
  datas_judged (d ∷ ds) i at to r u e s =
      let w = datas_read_lem big m v d ds at r u.0 e in
      let a = w.first.0 in
      let rest = w.rest.0 in
      subst (λ (x : List Answer × ℕ). Stands l (3 * i) (records_of x.0) to
      → Judges l m (judge_datas l m (d ∷ ds)) i to x.0) w.is
      (λ o.
      let c = split_to (record_of a) (records_of rest) (3 * suc i) (omega (arith, record_three a)) o in
      let k = datas_judged ds (suc i) w.first.1 to w.rest u.1 w.after c.1 in
      (k.0, k.1, datas_next l m d ds i k.0 a rest (data_judged i at (3 * suc i) w.first w.reads c.0) k.2))
      s

  -- ---- blocks, entries, groups

  -- What f reads, f' judges to be the same.
  abbrev Agree : (ℕ → Result (Values × ℕ)) → (ℕ → Result (Values × ℕ)) → Type 0
  Agree f f' =
      (at i to : ℕ) (r : Values × ℕ) → f at ≡ done r → AllSound r.0 → Stands l (3 * i) (listing r.0) to
      → Judges l m f' i to r.0

  module _ (s : Shape) (f f' : ℕ → Result (Values × ℕ)) (n : ℕ) (good : GoodShape v s) (enough : need v s ≤ n)
      (ih : Agree f f') where
    abbrev entry_listed : Entry → List ℕ → List ℕ
    entry_listed b rest = records_of b.0 ++ (listing b.1 ++ (records_of b.2 ++ rest))

    block_judged : (i at : ℕ) (b : Entry) (rest : List ℕ) (to : ℕ) → Each Sound b.0 → AllSound b.1
        → read_block big m v s f 0 n at ≡ done b
        → Stands l (3 * i) (entry_listed b rest) to
        → (j : ℕ) × (judge_block l m s f' i ≡ done (b.0, b.1, b.2, j)) × (Stands l (3 * j) rest to)
    unfolding read_block
    block_judged i at b rest to in₁ in₂ e st =
        let p = inv_bind _ _ _ e in
        let q = inv_bind _ _ _ p.next in
        let k = inv_bind _ _ _ q.next in
        let fits : at + n ≤ length m = leb-true (at + n) (length m) (inv_must _ _ _ _ p.first) in
        subst (λ (x : Entry). Each Sound x.0 → AllSound x.1 → Stands l (3 * i) (entry_listed x rest) to
        → (j : ℕ) × (judge_block l m s f' i ≡ done (x.0, x.1, x.2, j)) × (Stands l (3 * j) rest to))
        (done_inj k.next)
        (λ in₁' in₂' o.
        let fs = map (read_field big m v at) s.fields in
        let gs = q.value.0 in
        let ds = k.value.0 in
        let o₁ = split_to (records_of fs) (listing gs ++ (records_of ds ++ rest)) _ refl o in
        let w₁ = fields_judged s.fields i at s.length 0 0 _ good.fields good.fields_in
        (omega (arith, enough, fits)) in₁' o₁.0 in
        let o₂ = split_to (listing gs) (records_of ds ++ rest) _ refl
        (subst (λ (y : ℕ). Stands l y (listing gs ++ (records_of ds ++ rest)) to) w₁.1 o₁.1) in
        let w₂ = ih (at + n) w₁.0 _ q.value q.first in₂' o₂.0 in
        let o₃ = split_to (records_of ds) rest _ refl
        (subst (λ (y : ℕ). Stands l y (records_of ds ++ rest) to) w₂.1 o₂.1) in
        let w₃ = datas_judged s.datas w₂.0 q.value.1 _ k.value good.datas_in k.first o₃.0 in (
          w₃.0,
          block_next l m s f' i w₁.0 w₂.0 w₃.0 fs gs ds w₁.2 w₂.2 w₃.2,
          subst (λ (y : ℕ). Stands l y rest to) w₃.1 o₃.1,
        )) in₁ in₂ st

    entries_judged_lem : (k : ℕ) → Agree (read_entries k (read_block big m v s f 0 n))
        (judge_entries l m k (judge_block l m s f'))
    unfolding read_entries AllSound listing
    entries_judged_lem zero at i to r e sound st =
        subst (λ (x : Values × ℕ). Stands l (3 * i) (listing x.0) to
        → Judges l m (judge_entries l m 0 (judge_block l m s f')) i to x.0) (done_inj e)
        (λ o. (i, omega (arith, o.ends), entries_stop l m s f' i)) st
    entries_judged_lem (suc k) at i to r e sound st =
        let p = inv_bind _ _ _ e in
        let q = inv_bind _ _ _ p.next in
        let b = p.value in
        let rest = q.value.0 in
        subst (λ (x : Values × ℕ). AllSound x.0 → Stands l (3 * i) (listing x.0) to
        → Judges l m (judge_entries l m (suc k) (judge_block l m s f')) i to x.0) (done_inj q.next)
        (λ sound' o.
        let w = block_judged i at b (listing rest) to sound'.0 sound'.1 p.first o in
        let z = entries_judged_lem k b.3 w.0 to q.value q.first sound'.2 w.2 in
        (z.0, z.1, entries_next l m s f' k i w.0 z.0 b.0 b.1 b.2 rest w.1 z.2)) sound st

  groups_judged : (counted : Bool) (gs : Groups) (levels : ℕ) → GoodGroups v levels gs
      → Agree (read_groups counted v big m v gs levels 0) (judge_groups l m gs)
  unfolding GoodGroups AllSound listing record_of
  groups_judged counted none levels good at i to r e sound st =
      subst (λ (x : Values × ℕ). Stands l (3 * i) (listing x.0) to
      → Judges l m (judge_groups l m none) i to x.0) (done_inj (sym (no_groups_lem big m v counted levels at) ∙ e))
      (λ o. (i, omega (arith, o.ends), groups_stop l m i)) st
  groups_judged counted (more id since s inner rest) levels good at i to r e sound st =
      let w = group_read_lem counted big m v id since s inner rest levels at r good.0.is_in e in
      let k = w.sizes.entries in
      let es = w.entries.0 in
      let gs = w.others.0 in
      subst (λ (x : Values × ℕ). AllSound x.0 → Stands l (3 * i) (listing x.0) to
      → Judges l m (judge_groups l m (more id since s inner rest)) i to x.0) w.is
      (λ sound' o.
      let o₁ = split_to (4 ∷ k ∷ 0 ∷ []) (listing es ++ listing gs) (3 * suc i) (omega arith) o in
      let o₂ = split_to (listing es) (listing gs) _ refl o₁.1 in
      let a = entries_judged_lem s (read_groups counted v big m v inner (inside levels) 0) (judge_groups l m inner)
      w.sizes.length good.0.shape w.enough (groups_judged counted inner (inside levels) good.1) k
      (at + dimension_size counted) (suc i) _ w.entries w.reads sound'.0 o₂.0 in
      let c = groups_judged counted rest levels good.2 w.entries.1 a.0 to w.others w.after sound'.1
      (subst (λ (y : ℕ). Stands l y (listing gs) to) a.1 o₂.1) in (
        c.0,
        c.1,
        groups_next l m id since s inner rest i a.0 k c.0 es gs (record_is l m i 4 k 0 (3 * suc i) o₁.0)
            w.dimension.whole a.2 c.2,
      )) sound st

  -- The whole listing.
  pub listing_judged_lem : (counted : Bool) (t : Template) (levels n at : ℕ) (b : Entry) → GoodShape v t.shape
      → GoodGroups v levels t.groups
      → need v t.shape ≤ n
      → AllSound (entry b.0 b.1 b.2 nil)
      → read_block big m v t.shape (read_groups counted v big m v t.groups levels 0) 0 n at ≡ done b
      → listing (entry b.0 b.1 b.2 nil) ≡ l
      → judge_listing l m t ≡ done (entry b.0 b.1 b.2 nil)
  unfolding AllSound listing
  listing_judged_lem counted t levels n at b good gg enough sound e is =
      let w = block_judged t.shape (read_groups counted v big m v t.groups levels 0)
      (judge_groups l m t.groups) n good enough (groups_judged counted t.groups levels gg)
      0 at b [] (length l) sound.0 sound.1 e
      (subst (λ (x : List ℕ). Stands l 0 x (length l)) (sym is) (all_stands l)) in
      all_judged l m t w.0 b.0 b.1 b.2 w.1 (omega (arith, w.2.ends))
