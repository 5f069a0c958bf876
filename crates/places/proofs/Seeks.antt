-- The walk along a path, as its functions take their parts in turn: each part is told, and the first refusal is the
-- answer.
use mathlib.Core.Path.{◌∙◌, ◌≡◌, ap, refl, sym}
use mathlib.Core.List.{List, []}
use Prim.Native.Nat.{ℕ, zero, suc, ◌+◌, ◌-◌, ◌*◌, ◌≤◌, ◌<◌}
use native.Mathlib.Omega.{arith}
use lib.Dec.{eqb, ltb}
use lib.ListN.{length}
use borrow.Author.Tests.{eq-eqb, eqb-false, eqb-true, le-leb, le-ltb, lt-leb, lt-ltb, ltb-false, ltb-true, ne_eqb}
use Rattle.std.specs.Prelude.{Err, None, Ok, Option, Some}
use Rattle.layout.specs.Result.{Result, ◌>>=◌, done, must, when◌then◌else◌, refused}
use Rattle.layout.specs.Book.{Groups, Shape, none}
use Rattle.layout.specs.BookRules.{word}
use Rattle.layout.specs.Message.{Entry, dimension_size, in_row, read_block, read_datas, read_entries, read_groups}
use Rattle.layout.specs.Operations.{Told, refusal, told}
use Rattle.layout.specs.Values.{Values}
use Rattle.layout.specs.declared.Reason.TheVariants.{PastTheEnd}
use Rattle.layout.specs.declared.Refusal.{Refusal}
use Rattle.layout.proofs.Results.{each_way, either}
use Rattle.layout.proofs.Told.{inv_ok}
use Rattle.prepared.specs.Positions.{BlockAt, IsBlock, Opened, datas_from, groups_from, inner_at, is_big, is_counted}
use Rattle.prepared.specs.Positions.{many_datas, many_groups, next_from, shape_at}
use Rattle.prepared.proofs.Open.{head_there, no_datas_at, no_groups_at, some_follow}
use Rattle.counts.specs.Groups.{open_at}
use Rattle.counts.specs.declared.Entries.{Entries}
use Rattle.walk.specs.Walks.{Bounded, Small, after_datas, entry_by, row_at, values_end, walked}
use Rattle.walk.specs.declared.Walked.{Walked}
use Rattle.walk.proofs.Entries as Entries
use Rattle.walk.proofs.Entries.{plain_walked}
use Rattle.walk.proofs.Rows as Rows
use Rattle.places.specs.Seeks.{Path, Within, after_entry, entries_sought, entry_at, found_at, group_sought, inner_sought, plain_spot, row_after}
use Rattle.places.specs.Seeks.{row_sought, rowed, steps_from}
use Rattle.places.specs.Spots.{drop_groups, end_of_entry, end_of_row, entries_spot, first_spot, opened_spot, spot_in}
use Rattle.places.specs.Spots.{spot_of}
use Rattle.places.specs.declared.Row.{Row}
use Rattle.places.specs.declared.Spot.{Spot}
use Rattle.places.proofs.Places.{first_groups, group_halves, path_next, row_drops_all, steps_done, steps_next}
use Rattle.places.proofs.Rows.{ended, row_cut, spots_past}

unfoldable pub and_then : {A B : Type 0} → Told A → (A → Told B) → Told B
and_then (Ok a) k = k a
and_then (Err z) k = Err z

pub then_ok : {A B : Type 0} (a : A) (k : A → Told B) → and_then (Ok a) k ≡ k a
unfolding and_then
then_ok a k = refl

pub then_err : {A B : Type 0} (z : Refusal) (k : A → Told B) → and_then (Err z) k ≡ Err z
unfolding and_then
then_err z k = refl

-- A row that was walked, with the spot s.
abbrev with_spot : Option Spot → Result (Values × ℕ) → Told Row
with_spot s r = and_then (walked (values_end 0) r) (λ w. Ok (found_at w s))

-- What a function answers, as its two clauses say it.
abbrev pub Answers : List ℕ → Told Row → Told Row → Type 0
Answers m all r = (r ≡ all) × Within m r

told_found : (q : Result (Values × ℕ)) (s : Option Spot) → with_spot s q ≡ rowed q s
unfolding rowed told and_then
told_found (done r) s = refl
told_found (refused r p) s = refl

found_within : (m : List ℕ) (at own : ℕ) (w : Told Walked) (s : Option Spot) → Bounded m at own w
    → Within m (and_then w (λ w. Ok (found_at w s)))
unfolding Within Bounded and_then
found_within m at own (Ok w) s b = b.1
found_within m at own (Err z) s b = tt

-- It ends by a walk.
pub ends_walked : {all r : Told Row} {w : Told Walked} (m : List ℕ) (at own : ℕ) (q : Result (Values × ℕ)) (s : Option Spot)
    → r ≡ and_then w (λ w. Ok (found_at w s)) → w ≡ walked (values_end 0) q → Bounded m at own w → all ≡ rowed q s
    → Answers m all r
ends_walked {w = w} m at own q s e is b h =
    rw e (ap (λ w. and_then w (λ w. Ok (found_at w s))) is ∙ told_found q s ∙ sym h, found_within m at own w s b)

-- ---- the row of an entry

module _ (p : List ℕ) (depth a : ℕ) (m : List ℕ) (v : ℕ) (path : List ℕ) (i : ℕ) (e : Spot) where
  abbrev entry_row : Result (Values × ℕ)
  entry_row = row_at p depth (many_groups p a) (groups_from p a) m v e.groups (e.start + e.length)

  pub inner_on : Path path i → i < length path
      → inner_sought p depth a m v path i e ≡ row_sought p depth a m v path i e.groups (e.start + e.length)
  unfolding inner_sought row_sought spot_in
  inner_on q some =
      let whole : i + 2 ≤ length path = omega (arith, q.even) in
      rw (steps_next path i whole) refl

  pub inner_last : length path ≤ i → inner_sought p depth a m v path i e ≡ with_spot (Some e) entry_row
  unfolding inner_sought spot_in rowed told and_then
  inner_last last = rw (steps_done path i last) (grind arith)

-- ---- an entry that the path does not lead to

module _ (p : List ℕ) (depth a : ℕ) (m : List ℕ) (v : ℕ) (k : Entries) (at : ℕ) where
  pub entry_past : length m < at + k.length → told after_entry (entry_at p depth a m v k at) ≡ Err (refusal PastTheEnd at)
  unfolding told read_block must ◌>>=◌
  entry_past f = rw (lt-leb (at + k.length) (length m) f) refl

  pub entry_whole : at + k.length ≤ length m → told after_entry (entry_at p depth a m v k at)
      ≡ and_then (walked (values_end 0) (row_at p depth (many_groups p a) (groups_from p a) m v k.surplus.groups (at + k.length)))
      (λ w. told after_datas (read_datas (is_big p) m v (shape_at p a).datas k.surplus.datas w.next))
  unfolding told read_block must ◌>>=◌ and_then
  entry_whole f =
      let fits = le-leb (at + k.length) (length m) f in
      grind (arith)

-- ---- a group of the row, by the step to its entry e

module _ (p : List ℕ) (depth a : ℕ) (m : List ℕ) (v : ℕ) (path : List ℕ) (i n surplus at : ℕ)
    (opened : Opened p depth n a) where
  pub group_absent : v < word p (a + 1) → group_sought p depth a m v path i n surplus at
      ≡ with_spot None (row_at p depth (n - 1) (next_from p a) m v surplus at)
  unfolding group_sought first_spot when◌then◌else◌ rowed told ◌>>=◌ and_then
  group_absent h =
      let next = Rows.row_absent p depth n a m v surplus at opened.tree h in
      let gone = lt-leb (word p (a + 1)) v h in
      rw opened.tree (grind (arith))

  pub group_present : word p (a + 1) ≤ v → group_sought p depth a m v path i n surplus at
      ≡ and_then (told (λ k. k) (open_at p (depth - 1) a m v at))
      (λ k. and_then (entries_sought p (depth - 1) a m v path i k (at + dimension_size (is_counted p)))
      (λ r. with_spot r.spot (row_at p depth (n - 1) (next_from p a) m v surplus r.next)))
  unfolding group_sought entries_sought first_spot opened_spot when◌then◌else◌ rowed told ◌>>=◌ and_then
  group_present h =
      let next = Rows.row_present p depth n a m v surplus at opened.tree h in
      let here = le-leb (word p (a + 1)) v h in
      rw opened.tree (grind (arith))

-- What a group that was opened is good for.
pub opened_good : (p : List ℕ) (depth a : ℕ) (m : List ℕ) (v at : ℕ) (k : Entries)
    → Ok k ≡ told (λ k. k) (open_at p depth a m v at) → Small k × (at + dimension_size (is_counted p) ≤ length m)
opened_good p depth a m v at k e =
    let o = inv_ok (λ (k : Entries). k) _ k e in
    (Rows.opened_small _ _ _ _ _ _ _ _).1 k (o.is ∙ ap done o.gives)

-- ---- the row of a block, by the step at i

module _ (p : List ℕ) (depth a : ℕ) (m : List ℕ) (v : ℕ) (path : List ℕ) (i surplus at : ℕ) where
  pub row_lacks : many_groups p a ≤ word path i → row_sought p depth a m v path i surplus at
      ≡ with_spot None (row_at p depth (many_groups p a) (groups_from p a) m v surplus at)
  unfolding row_sought first_spot rowed told and_then
  row_lacks h = rw (row_drops_all p depth (many_groups p a) (word path i) (groups_from p a) h) (grind arith)

  pub row_onward : BlockAt p depth a → word path i < many_groups p a → row_sought p depth a m v path i surplus at
      ≡ and_then (walked (values_end 0) (row_at p depth (word path i) (groups_from p a) m v 0 at))
      (λ w. group_sought p depth (row_after p (word path i) (groups_from p a)) m v path i (many_groups p a - word path i)
      surplus w.next)
  unfolding row_sought group_sought rowed told ended ◌>>=◌ and_then end_of_row
  row_onward stands h =
      let halves = group_halves p depth a (word path i) stands h in
      let cut = row_cut p m v depth (word path i) (inner_at p depth a) surplus at in
      rw (← halves.takes, ← halves.drops) (grind arith)

-- ---- an entry

-- Of k entries that f reads n were passed and the next stands at `at`; entry e is looked for, and the spot is z so far.
module _ (f : ℕ → Result Entry) (inside : ℕ → Option Spot) (k e : ℕ) where
  abbrev spot_left : ℕ → Option Spot → ℕ → Option Spot
  spot_left n z at = when ltb e n then z else entries_spot f inside z (k - n) (e - n) at

  spot_done : (n : ℕ) (z : Option Spot) (at : ℕ) → k ≤ n → spot_left n z at ≡ z
  unfolding entries_spot
  spot_done n z at h =
      let none : k - n ≡ 0 = omega arith in
      rw none (either (λ s. s ≡ z) (ltb e n) z z refl refl)

  spot_next : (n : ℕ) (z : Option Spot) (at : ℕ) → n < k
      → spot_left n z at ≡ spot_left (n + 1) (when eqb n e then inside at else z) (end_of_entry (f at))
  unfolding entries_spot when◌then◌else◌
  spot_next n z at h =
      let some : k - n ≡ suc (k - (n + 1)) = omega arith in
      each_way (ltb e n)
      (λ t. let past : e < n + 1 = omega (arith, ltb-true e n t) in
      rw (t, lt-ltb e (n + 1) past, ne_eqb n e (λ q. omega (arith, q, ltb-true e n t))) refl)
      (λ t. each_way (eqb n e)
      (λ q. let here : e - n ≡ 0 = omega (arith, eqb-true n e q) in
      rw (t, q, some, here, lt-ltb e (n + 1) (omega (arith, eqb-true n e q))) refl)
      (λ q. let later : e - n ≡ suc (e - (n + 1)) = omega (arith, eqb-false n e q, ltb-false e n t) in
      rw (t, q, some, later, le-ltb e (n + 1) (omega (arith, eqb-false n e q, ltb-false e n t))) refl))

module _ (p : List ℕ) (depth a : ℕ) (m : List ℕ) (v : ℕ) (path : List ℕ) (i : ℕ) (k : Entries) where
  abbrev reads : ℕ → Result Entry
  reads = entry_at p depth a m v k

  abbrev inside : ℕ → Option Spot
  inside x = spot_in p m v (steps_from path (i + 2)) (inner_at p depth a) depth (spot_of k.surplus.groups k.length x)

  -- Of them n were passed and the next stands at `at`; the spot is z so far.
  unfoldable pub entries_left : ℕ → Option Spot → ℕ → Told Row
  entries_left n z at =
      rowed (read_entries (k.count - n) reads at) (spot_left reads inside k.count (word path (i + 1)) n z at)

  pub entries_all : (at : ℕ) → entries_sought p depth a m v path i k at ≡ entries_left 0 None at
  unfolding entries_sought entries_left when◌then◌else◌
  entries_all at =
      let all : k.count - 0 ≡ k.count = omega arith in
      let from : word path (i + 1) - 0 ≡ word path (i + 1) = omega arith in
      rw (all, from, le-ltb (word path (i + 1)) 0 (omega arith)) refl

  module _ (n : ℕ) (z : Option Spot) (at : ℕ) where
    pub entries_done : k.count ≤ n → entries_left n z at ≡ Ok (record { next = at; spot = z })
    unfolding entries_left rowed told
    entries_done h =
        rw (Entries.entries_done reads k.count n at h, spot_done reads inside k.count (word path (i + 1)) n z at h) refl

    module _ (h : n < k.count) where
      pub entry_short : length m < at + k.length → entries_left n z at ≡ Err (refusal PastTheEnd at)
      unfolding entries_left rowed told read_block must ◌>>=◌
      entry_short f =
          rw (Entries.entries_next reads k.count n at h, lt-leb (at + k.length) (length m) f) refl

      -- The path does not lead to it.
      pub entry_off : (n ≡ word path (i + 1) → ⊥) → entries_left n z at
          ≡ and_then (told after_entry (reads at)) (λ w. entries_left (n + 1) z w)
      unfolding entries_left told and_then rowed ◌>>=◌ end_of_entry when◌then◌else◌
      entry_off other =
          let next = Entries.entries_next reads k.count n at h in
          let spot = spot_next reads inside k.count (word path (i + 1)) n z at h in
          let off = ne_eqb n (word path (i + 1)) other in
          grind (arith)

      -- It leads to it.
      pub entry_on : n ≡ word path (i + 1) → at + k.length ≤ length m → entries_left n z at
          ≡ and_then (inner_sought p depth a m v path (i + 2) (spot_of k.surplus.groups k.length at))
          (λ x. and_then (told after_datas (read_datas (is_big p) m v (shape_at p a).datas
          k.surplus.datas x.next)) (λ w. entries_left (n + 1) x.spot w))
      unfolding entries_left inner_sought read_block must ◌>>=◌ told and_then rowed end_of_entry when◌then◌else◌
      entry_on here f =
          let next = Entries.entries_next reads k.count n at h in
          let spot = spot_next reads inside k.count (word path (i + 1)) n z at h in
          let on = eq-eqb n (word path (i + 1)) here in
          let fits = le-leb (at + k.length) (length m) f in
          grind (arith)

-- ---- plain entries: nothing follows a block

module _ (p m : List ℕ) (v : ℕ) (s : Shape) (gs : Groups) (depth l : ℕ) (no_groups_lem : gs ≡ none)
    (no_datas_lem : s.datas ≡ []) where
  abbrev plain_is : ℕ → Result Entry
  plain_is = entry_by p m v s gs depth 0 0 l

  plain_end : (at : ℕ) → at + l ≤ length m → end_of_entry (plain_is at) ≡ at + l
  unfolding read_block read_groups read_datas in_row must ◌>>=◌ end_of_entry
  plain_end at h = rw (le-leb (at + l) (length m) h, no_groups_lem, no_datas_lem) refl

  plain_entry : (inside : ℕ → Option Spot) (n e at : ℕ) → e < n → at + l * n ≤ length m
      → entries_spot plain_is inside None n e at ≡ inside (at + l * e)
  unfolding entries_spot
  plain_entry inside zero e at less fit = absurd (omega arith)
  plain_entry inside (suc n) zero at less fit = ap inside (omega arith)
  plain_entry inside (suc n) (suc e) at less fit =
      let on : at + l * suc e ≡ at + l + l * e = omega arith in
      rw (plain_end at (omega arith), on) (plain_entry inside n e (at + l) (omega (arith, less)) (omega arith))

  drops_none : (g : ℕ) → drop_groups g none ≡ none
  unfolding drop_groups
  drops_none zero = refl
  drops_none (suc g) = refl

  -- No step leads on in an entry without groups.
  plain_inside : (path : List ℕ) (i : ℕ) → Path path i → (x : Spot)
      → spot_in p m v (steps_from path i) gs depth x ≡ (when eqb (length path) i then Some x else None)
  unfolding spot_in first_spot when◌then◌else◌
  plain_inside path i q x =
      each_way (eqb (length path) i)
      (λ e. rw (e, steps_done path i (omega (arith, eqb-true (length path) i e))) refl)
      (λ e. let some : i + 2 ≤ length path = omega (arith, q.even, q.inside, eqb-false (length path) i e) in
      rw (e, steps_next path i some, no_groups_lem, drops_none (word path i)) refl)

  plain_spot_lem : (path : List ℕ) (i : ℕ) → Path path i → (k e at : ℕ) → at + l * k ≤ length m
      → entries_spot plain_is (λ x. spot_in p m v (steps_from path i) gs depth (spot_of 0 l x)) None k e at
      ≡ plain_spot l k at e (eqb (length path) i)
  unfolding when◌then◌else◌
  plain_spot_lem path i q k e at fit =
      let inside : ℕ → Option Spot = λ x. spot_in p m v (steps_from path i) gs depth (spot_of 0 l x) in
      each_way (ltb e k)
      (λ t. rw t (plain_entry inside k e at (ltb-true e k t) fit ∙ plain_inside path i q (spot_of 0 l (at + l * e))))
      (λ t. rw t (spots_past plain_is inside None k e at (ltb-false e k t)))

pub entries_plain : (p : List ℕ) (depth a : ℕ) (m : List ℕ) (v : ℕ) (path : List ℕ) (i : ℕ) (k : Entries) (start : ℕ)
    → IsBlock p a → word p (a + 7) + k.surplus.groups + k.surplus.datas ≡ 0 → start + k.length * k.count ≤ length m
    → Path path (i + 2) → entries_sought p depth a m v path i k start
    ≡ Ok (record {
      next = start + k.length * k.count;
      spot = plain_spot k.length k.count start (word path (i + 1)) (eqb (length path) (i + 2));
    })
unfolding entries_sought rowed told
entries_plain p depth a m v path i k start b z fit q =
    let none : k.surplus.groups ≡ 0 = omega arith in
    let none' : k.surplus.datas ≡ 0 = omega arith in
    let spot = plain_spot_lem p m v (shape_at p a) (inner_at p depth a) depth k.length
    (no_groups_at p depth (many_groups p a) (groups_from p a) (omega (arith, some_follow b, z)))
    (no_datas_at p (many_datas p a) (datas_from p a) (omega (arith, some_follow b, z))) path (i + 2) q k.count
    (word path (i + 1)) start fit in
    let walk = plain_walked p depth a m v k.length k.count k.surplus.groups k.surplus.datas start _ b refl z fit in
    rw (none, none', spot) (grind arith)

pub ruleset seeks = (then_ok, then_err, inner_on, inner_last, entry_past, entry_whole, group_absent, group_present, row_lacks, row_onward, first_groups, head_there, opened_good)

pub ruleset entries = (then_ok, then_err, entries_all, entries_done, entry_short, entry_off, entry_on, entries_plain, path_next, some_follow)
