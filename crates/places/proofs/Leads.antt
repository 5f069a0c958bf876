-- The law of spots: at the spot of steps stands the entry that answers for them.
use mathlib.Core.Path.{◌∙◌, ◌≡◌, ap, refl, sym}
use mathlib.Core.Bool.{Bool}
use mathlib.Core.List.{List, [], ◌∷◌, map}
use Prim.Native.Nat.{ℕ, zero, suc, ◌+◌, ◌-◌, ◌≤◌}
use native.Mathlib.Omega.{arith}
use lib.Dec.{leb}
use lib.ListN.{length}
use borrow.Author.Tests.{le-leb, leb-false, leb-true}
use Rattle.std.specs.Prelude.{None, Option, Some}
use Rattle.layout.specs.Result.{Result, ◌>>=◌, done, when◌then◌else◌, must, refused}
use Rattle.layout.specs.Book.{Groups, Shape, group_sinces, more, need, none}
use Rattle.layout.specs.Message.{Entry, dimension_size, read_block, read_datas, read_entries, read_field}
use Rattle.layout.specs.Message.{read_groups, skip_datas}
use Rattle.layout.specs.Values.{Step, Values, answer_at, element_in, element_of, entries_from, entries_of, entry}
use Rattle.layout.specs.Values.{groups_in, nil}
use Rattle.layout.specs.declared.Answer.{Answer}
use Rattle.layout.specs.declared.Element.{Element}
use Rattle.layout.specs.declared.Reason.TheVariants.{EntryMissing}
use Rattle.layout.proofs.Results.{done_inj, each_way, inv_bind, inv_both, inv_must}
use Rattle.prepared.specs.Positions.{is_big, is_counted, version_at}
use Rattle.counts.specs.Groups.{open_by}
use Rattle.counts.specs.declared.Entries.{Entries}
use Rattle.counts.proofs.Groups.{group_good}
use Rattle.walk.specs.Walks.{entry_by, groups_by}
use Rattle.walk.proofs.Datas.{datas_surplus}
use Rattle.walk.proofs.Groups.{row_absent, row_present}
use Rattle.places.specs.Spots.{Block, block_in, drop_groups, end_of_row, first_block, first_spot, opened_spot, spot_in}
use Rattle.places.specs.Spots.{spot_of, step_spot}
use Rattle.places.specs.declared.Spot.{Spot}
use Rattle.places.proofs.Rows.{entries_few, entry_from, row_from, spots_past}

module _ (big : Bool) (m : List ℕ) (v : ℕ) where
  -- What a block that was read is good for.
  pub record BlockRead (s : Shape) (f : ℕ → Result (Values × ℕ)) (n l at : ℕ) (e : Entry) : Type 0 where
    pub fits : at + l ≤ length m
    pub row : Values × ℕ
    pub groups : f (at + l) ≡ done row
    pub datas : read_datas big m v s.datas n row.1 ≡ done (e.2, e.3)
    pub fields : map (read_field big m v at) s.fields ≡ e.0
    pub same : row.0 ≡ e.1

  pub block_read : (s : Shape) (f : ℕ → Result (Values × ℕ)) (n l at : ℕ) (e : Entry)
      → read_block big m v s f n l at ≡ done e → BlockRead s f n l at e
  unfolding read_block
  block_read s f n l at e h =
      let t = inv_bind _ _ _ h in
      let g = inv_both _ _ _ _ t.next in
      record {
        fits = leb-true (at + l) (length m) (inv_must _ _ _ _ t.first);
        row = g.value;
        groups = g.first;
        datas = g.second ∙ ap (λ (e : Entry). done (e.2, e.3)) g.is;
        fields = ap (λ (e : Entry). e.0) g.is;
        same = ap (λ (e : Entry). e.1) g.is;
      }

  -- Where it ends without the surplus data.
  pub record BlockLess (s : Shape) (f : ℕ → Result (Values × ℕ)) (l at : ℕ) (e : Entry) : Type 0 where
    pub end : ℕ
    pub reads : read_block big m v s f 0 l at ≡ done (e.0, e.1, e.2, end)

  pub block_less : (s : Shape) (f : ℕ → Result (Values × ℕ)) (n l at : ℕ) (e : Entry)
      → read_block big m v s f n l at ≡ done e → BlockLess s f l at e
  unfolding read_block must ◌>>=◌
  block_less s f n l at e h =
      let b = block_read s f n l at e h in
      let d = inv_bind (read_datas big m v s.datas 0 b.row.1) _ _ (sym (datas_surplus big m n v s.datas b.row.1) ∙ b.datas) in
      let same = ap (λ (d : List Answer × ℕ). d.0) (done_inj (inv_bind (skip_datas big m n d.value.1) _ _ d.next).next) in
      let fits = le-leb (at + l) (length m) b.fits in
      record { end = d.value.1; reads = grind arith }

-- ---- nothing

no_entries_lem : (e : ℕ) → entries_from e nil ≡ nil
unfolding entries_from
no_entries_lem zero = refl
no_entries_lem (suc e) = refl

-- "31: entry not below the count (absent counts 0)"
nothing : (p : List Step) (x : Element) → answer_at p x nil ≡ refused EntryMissing 0
unfolding answer_at element_in groups_in entries_of
nothing [] x = refl
nothing (s ∷ p) x = rw (no_entries_lem s.entry) (nothing p x)

-- ---- where steps lead

-- What `ask` says of each element: that there is no such entry, and no spot; or what stands in the entry at the spot,
-- which is read by the block b, `depth` more levels being left in it.
pub data Leads (p m : List ℕ) (v : ℕ) (b : Block) (depth : ℕ) (spot : Option Spot) (ask : Element → Result Answer)
    : Type 0 where
  missing : spot ≡ None → ((x : Element) → ask x ≡ refused EntryMissing 0) → Leads p m v b depth spot ask
  there : (s : Spot) → spot ≡ Some s → (e : Entry) → need v b.0 ≤ s.length → s.groups ≤ 65535
      → entry_by p m v b.0 b.1 depth s.groups 0 s.length s.start ≡ done e
      → ((x : Element) → ask x ≡ done (element_of x e.0 e.1 e.2)) → Leads p m v b depth spot ask

module _ (p m : List ℕ) (v : ℕ) where
  retold : {b c : Block} {i j : ℕ} {s t : Option Spot} {f g : Element → Result Answer} → b ≡ c → i ≡ j → s ≡ t
      → ((x : Element) → f x ≡ g x) → Leads p m v c j t g → Leads p m v b i s f
  retold q d r h (missing z a) = missing (r ∙ z) (λ x. h x ∙ a x)
  retold q d r h (there s is e enough few reads a) =
      rw (q, d) (there s (r ∙ is) e enough few reads (λ x. h x ∙ a x))

  -- What the steps after the first lead to, from an entry that was read with k surplus data.
  abbrev Inside : List Step → Type 0
  Inside ps = (b : Block) (depth : ℕ) (s : Spot) (k : ℕ) (e : Entry) (rest : Values)
      → need v b.0 ≤ s.length → s.groups ≤ 65535
      → entry_by p m v b.0 b.1 depth s.groups k s.length s.start ≡ done e
      → Leads p m v (block_in ps b) (depth - length ps) (spot_in p m v ps b.1 depth s)
      (λ x. answer_at ps x (entry e.0 e.1 e.2 rest))

  module _ (ps : List Step) (inside : Inside ps) where
    -- Entry e of a group that was opened and read.
    group_leads : (s : Shape) (inner : Groups) (depth at e : ℕ) (k : Entries)
        → open_by (is_counted p) (version_at p) (is_big p) m v s (group_sinces inner) at ≡ done k → (r : Values × ℕ)
        → read_entries k.count (entry_by p m v s inner depth k.surplus.groups k.surplus.datas k.length)
        (at + dimension_size (is_counted p)) ≡ done r
        → Leads p m v (block_in ps (s, inner)) (depth - length ps)
        (opened_spot p m v e (spot_in p m v ps inner depth) s inner depth (at + dimension_size (is_counted p))
        (open_by (is_counted p) (version_at p) (is_big p) m v s (group_sinces inner) at))
        (λ x. answer_at ps x (entries_from e r.0))
    unfolding opened_spot
    group_leads s inner depth at e k is r reads =
        let good = group_good _ _ _ _ _ _ _ _ k is in
        let spot : ℕ → Option Spot =
        λ x. spot_in p m v ps inner depth (spot_of k.surplus.groups k.length x) in
        rw is (each_way (leb k.count e)
        (λ t. let few = leb-true k.count e t in
        missing (spots_past _ spot None k.count e _ few)
        (λ x. ap (answer_at ps x) (entries_few _ _ _ _ _ reads few) ∙ nothing ps x))
        (λ t. let here = entry_from _ spot None k.count e _ _ reads (leb-false k.count e t) in
        retold refl refl here.spot (λ x. ap (answer_at ps x) here.from)
        (inside (s, inner) depth (spot_of k.surplus.groups k.length here.start) _ here.value here.rest good.enough
        (omega (arith, good.few_groups)) here.reads)))

    -- Entry e of the first group of a row that was read.
    first_leads : (b : Block) (e : ℕ) (gs : Groups) (depth n at : ℕ) (r : Values × ℕ)
        → groups_by p m v gs depth n at ≡ done r
        → Leads p m v (block_in ps (first_block b gs)) (depth - 1 - length ps)
        (first_spot p m v e (spot_in p m v ps) gs depth at)
        (λ x. answer_at ps x (entries_from e (entries_of 0 r.0)))
    unfolding read_groups first_block first_spot entries_of when◌then◌else◌
    first_leads b e none depth n at r h =
        let is = ap (λ (d : Values × ℕ). entries_from e (entries_of 0 d.0)) (done_inj (inv_bind _ _ _ h).next) in
        missing refl (λ x. ap (answer_at ps x) (sym is ∙ no_entries_lem e) ∙ nothing ps x)
    first_leads b e (more i since s inner rest) depth n at r h =
        each_way (leb since v)
        (λ t. let there = row_present p m v depth n at _ i since s inner rest refl (leb-true since v t) in
        let o = inv_bind _ _ _ (sym there ∙ h) in
        let q = inv_both _ _ _ _ o.next in
        let is = ap (λ (d : Values × ℕ). entries_from e (entries_of 0 d.0)) q.is in
        rw t (retold refl refl refl (λ x. ap (answer_at ps x) (sym is))
        (group_leads s inner (depth - 1) at e o.value o.first q.value q.first)))
        (λ t. let gone = row_absent p m v depth n at _ i since s inner rest refl (leb-false since v t) in
        let q = inv_bind _ _ _ (sym gone ∙ h) in
        let is = ap (λ (d : Values × ℕ). entries_from e (entries_of 0 d.0)) (done_inj q.next) in
        missing (rw t refl) (λ x. ap (answer_at ps x) (sym is ∙ no_entries_lem e) ∙ nothing ps x))

    -- A step from a row that was read, with n surplus groups.
    step_leads : (b : Block) (s : Step) (depth n at : ℕ) (r : Values × ℕ) → groups_by p m v b.1 depth n at ≡ done r
        → Leads p m v (block_in (s ∷ ps) b) (depth - length (s ∷ ps))
        (step_spot p m v s (spot_in p m v ps) b.1 depth at)
        (λ x. answer_at ps x (entries_from s.entry (entries_of s.group r.0)))
    unfolding block_in end_of_row
    step_leads b s depth n at r h =
        let f = row_from p m v depth s.group b.1 n at r h in
        rw f.passed
        (retold refl (omega arith) refl
        (λ x. ap (λ (z : Values). answer_at ps x (entries_from s.entry z)) f.entries)
        (first_leads b s.entry (drop_groups s.group b.1) depth n f.first.1 (f.value, r.1) f.reads))

  entry_leads : (ps : List Step) → Inside ps
  unfolding block_in spot_in answer_at element_in groups_in
  entry_leads [] b depth s k e rest enough few h =
      let less = block_less (is_big p) m v _ _ _ _ _ _ h in
      retold refl (omega arith) refl (λ x. refl) (there s refl _ enough few less.reads (λ x. refl))
  entry_leads (s ∷ ps) b depth z k e rest enough few h =
      let read = block_read (is_big p) m v _ _ _ _ _ _ h in
      retold refl refl refl
      (λ x. ap (λ (z : Values). answer_at ps x (entries_from s.entry (entries_of s.group z))) (sym read.same))
      (step_leads ps (entry_leads ps) b s depth z.groups (z.start + z.length) read.row read.groups)

  -- Steps from a block whose groups were read, with n surplus ones.
  pub row_leads : (b : Block) (s : Step) (ps : List Step) (depth n at : ℕ) (r : Values × ℕ)
      → groups_by p m v b.1 depth n at ≡ done r → (fs ds : List Answer) (rest : Values)
      → Leads p m v (block_in (s ∷ ps) b) (depth - length (s ∷ ps))
      (step_spot p m v s (spot_in p m v ps) b.1 depth at)
      (λ x. answer_at (s ∷ ps) x (entry fs r.0 ds rest))
  unfolding answer_at groups_in
  row_leads b s ps depth n at r h fs ds rest = step_leads ps (entry_leads ps) b s depth n at r h
