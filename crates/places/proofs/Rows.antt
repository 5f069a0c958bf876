-- A row of groups is its first g groups and the others; an entry of a group and those after it.
use mathlib.Core.Path.{◌∙◌, ◌≡◌, ap, refl, sym}
use mathlib.Core.List.{List}
use Prim.Native.Nat.{ℕ, zero, suc, ◌≤◌, ◌<◌}
use native.Mathlib.Omega.{arith}
use Rattle.std.specs.Prelude.{Option}
use Rattle.layout.specs.Result.{Result, ◌>>=◌, done, refused}
use Rattle.layout.specs.Book.{Groups, more, none}
use Rattle.layout.specs.Message.{Entry, in_row, read_entries, read_groups}
use Rattle.layout.specs.Values.{Values, entries_from, entries_of, entry, group, group_of, nil}
use Rattle.layout.specs.declared.Answer.{Answer}
use Rattle.layout.proofs.Results.{bind_done, done_inj, inv_bind, inv_both}
use Rattle.walk.specs.Walks.{groups_by}
use Rattle.places.specs.Spots.{drop_groups, entries_spot, end_of_entry, take_groups}
use Rattle.places.specs.declared.Spot.{Spot}

-- ---- groups

-- The end alone.
unfoldable pub ended : Result (Values × ℕ) → Result ℕ
ended (done r) = done r.1
ended (refused n p) = refused n p

-- A group and the groups after it.
abbrev grouped : Answer × Values × ℕ → Values × ℕ → Values × ℕ
grouped a q = (group a.0 a.1 q.0, q.1)

module _ (p m : List ℕ) (v depth : ℕ) where
  abbrev row : Groups → ℕ → ℕ → Result (Values × ℕ)
  row gs n at = groups_by p m v gs depth n at

  -- Group g of a row that was read is the first of those from it on.
  pub record RowFrom (g : ℕ) (gs : Groups) (n at : ℕ) (r : Values × ℕ) : Type 0 where
    pub first : Values × ℕ
    pub value : Values
    pub passed : row (take_groups g gs) 0 at ≡ done first
    pub reads : row (drop_groups g gs) n first.1 ≡ done (value, r.1)
    pub entries : entries_of g r.0 ≡ entries_of 0 value
    pub group : group_of g r.0 ≡ group_of 0 value

  pub row_from : (g : ℕ) (gs : Groups) (n at : ℕ) (r : Values × ℕ) → row gs n at ≡ done r → RowFrom g gs n at r
  unfolding read_groups in_row take_groups drop_groups entries_of group_of
  row_from zero gs n at r h =
      record { first = (nil, at); value = r.0; passed = grind (arith, bind_done); reads = h; entries = refl; group = refl }
  row_from (suc g) none n at r h =
      let e = done_inj (inv_bind _ _ _ h).next in
      record {
        first = (nil, at);
        value = r.0;
        passed = grind (arith, bind_done);
        reads = h;
        entries = rw (← e) refl;
        group = rw (← e) refl;
      }
  row_from (suc g) (more i since s inner rest) n at r h =
      let a = inv_both _ _ _ _ h in
      let gv = ap (λ (d : Values × ℕ). d.0) a.is in
      let end = ap (λ (d : Values × ℕ). d.1) a.is in
      let on = row_from g rest n a.value.2 a.other a.second in
      record {
        first = grouped a.value on.first;
        value = on.value;
        passed = grind (arith, bind_done);
        reads = on.reads ∙ ap (λ y. done (on.value, y)) end;
        entries = ap (entries_of (suc g)) (sym gv) ∙ on.entries;
        group = ap (group_of (suc g)) (sym gv) ∙ on.group;
      }

  -- The others start where the first g end.
  pub row_cut : (g : ℕ) (gs : Groups) (n at : ℕ) → ended (row gs n at)
      ≡ (ended (row (take_groups g gs) 0 at) >>= λ x. ended (row (drop_groups g gs) n x))
  unfolding read_groups in_row take_groups drop_groups ended ◌>>=◌
  row_cut zero gs n at = refl
  row_cut (suc g) none n at = refl
  row_cut (suc g) (more i since s inner rest) n at =
      let cut : (x : ℕ) → ended (row rest n x)
      ≡ (ended (row (take_groups g rest) 0 x) >>= λ x. ended (row (drop_groups g rest) n x)) = row_cut g rest n in
      grind (arith, cut)

  -- Where it ends without the surplus groups.
  pub record RowLess (gs : Groups) (at : ℕ) (r : Values × ℕ) : Type 0 where
    pub end : ℕ
    pub reads : row gs 0 at ≡ done (r.0, end)

  pub row_less : (gs : Groups) (n at : ℕ) (r : Values × ℕ) → row gs n at ≡ done r → RowLess gs at r
  unfolding read_groups in_row
  row_less none n at r h =
      let e : nil ≡ r.0 = ap (λ (d : Values × ℕ). d.0) (done_inj (inv_bind _ _ _ h).next) in
      record { end = at; reads = grind (arith, bind_done) }
  row_less (more i since s inner rest) n at r h =
      let a = inv_both _ _ _ _ h in
      let on = row_less rest n a.value.2 a.other a.second in
      record { end = on.end; reads = grind (arith, bind_done) }

-- ---- entries

module _ (f : ℕ → Result Entry) where
  -- Past the last there are none.
  pub entries_few : (k e at : ℕ) (r : Values × ℕ) → read_entries k f at ≡ done r → k ≤ e → entries_from e r.0 ≡ nil
  unfolding read_entries entries_from
  entries_few zero zero at r h less = rw (← (done_inj h)) refl
  entries_few zero (suc e) at r h less = rw (← (done_inj h)) refl
  entries_few (suc k) zero at r h less = absurd (omega arith)
  entries_few (suc k) (suc e) at r h less =
      let p = inv_both _ _ _ _ h in
      rw (← p.is) (entries_few k e _ p.other p.second (omega (arith, less)))

  module _ (inside : ℕ → Option Spot) (z : Option Spot) where
    pub spots_past : (k e at : ℕ) → k ≤ e → entries_spot f inside z k e at ≡ z
    unfolding entries_spot
    spots_past zero e at h = refl
    spots_past (suc k) zero at h = absurd (omega arith)
    spots_past (suc k) (suc e) at h = spots_past k e _ (omega (arith, h))

    -- Entry e, and those after it.
    pub record EntryFrom (k e at : ℕ) (es : Values) : Type 0 where
      pub start : ℕ
      pub value : Entry
      pub rest : Values
      pub reads : f start ≡ done value
      pub spot : entries_spot f inside z k e at ≡ inside start
      pub from : entries_from e es ≡ entry value.0 value.1 value.2 rest

    entry_later : (k e at : ℕ) (a : Entry) (r : Values) → f at ≡ done a → EntryFrom k e a.3 r → (es : Values)
        → entry a.0 a.1 a.2 r ≡ es → EntryFrom (suc k) (suc e) at es
    unfolding entries_from entries_spot end_of_entry
    entry_later k e at a r reads there es is =
        record {
          start = there.start;
          value = there.value;
          rest = there.rest;
          reads = there.reads;
          spot = rw reads there.spot;
          from = rw (← is) there.from;
        }

    pub entry_from : (k e at : ℕ) (r : Values × ℕ) → read_entries k f at ≡ done r → e < k → EntryFrom k e at r.0
    unfolding read_entries entries_from entries_spot
    entry_from zero e at r h less = absurd (omega arith)
    entry_from (suc k) zero at r h less =
        let p = inv_both (f at) _ _ _ h in
        record {
          start = at;
          value = p.value;
          rest = p.other.0;
          reads = p.first;
          spot = refl;
          from = sym (ap (λ (d : Values × ℕ). d.0) p.is);
        }
    entry_from (suc k) (suc e) at r h less =
        let p = inv_both (f at) _ _ _ h in
        entry_later k e at p.value p.other.0 p.first (entry_from k e _ p.other p.second (omega (arith, less))) r.0
        (ap (λ (d : Values × ℕ). d.0) p.is)
