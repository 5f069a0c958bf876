-- The storing pass calls itself as the walk does. Of the whole's numbers some are stored, and those of what is left are
-- to come (`Going`). The measure of a call is the depth left, and within a depth the order of the calls.
use Rattle.std.proofs.Common.{ℕ, ◌-◌, refl, arith}
use Rattle.layout.proofs.Results.{and_right}
use Rattle.prepared.proofs.Open.{head_there, no_datas_at, no_groups_at, some_follow}
use Rattle.prepared.specs.Positions.{groups_at, next_from}
use Rattle.fields.proofs.Fields.{fields_fit_lem}
use Rattle.prints.specs.Prints.{end_of}
use Rattle.prints.proofs.Going.{going_call, going_end, going_first, stored_none}
use Rattle.store.proofs.Parts.{EntryOpen, datas_end_lem, entries_end, entry_open, group_absent, group_is_open}
use Rattle.store.proofs.Parts.{GroupOpen, group_open, groups_end_lem, none_skipped, skip_accepted, skip_stored}
use Rattle.store.proofs.+store_entries_store_row.Goals as goal
use Rattle.store.proofs.+store_entries_store_row.Goals.{store_entries-In-loop}
use Rattle.store.proofs.+store_entries_store_row.Goals.{store_row-After-entries_of-entries}

-- An entry is left, and what it prints comes first.
first_entry : (t : ℕ) (c : store_entries-In-loop t) → let a = c.args in let e = a.entries in
    EntryOpen a.m.now.book.now a.depth a.a a.m.now.octets.now a.m.now.version e.surplus.groups e.surplus.datas e.length
    c.loop.counter c.loop.here.at
first_entry t c =
    entry_open _ _ _ _ _ _ _ _ _ _ c.loop-test.true c.loop.invariant.1.room.whole

pub store_entries-store_fields-here-requires : goal.store_entries-store_fields-here-requires
store_entries-store_fields-here-requires t c =
    let inv = c.loop.invariant in
    let pre = c.requires.block_at in
    let block = pre.0.block in
    let o = first_entry t (goal.at.store_entries-store_fields-here-requires t c).In-loop in
    record {
      block = (block, fields_fit_lem _ _ _ _ _ _ _ _ (and_right _ _ block.good) (omega arith) pre.1 o.within);
      m_len_bound = (inv.0.short, o.within);
      room = going_first inv.1 _ o.same;
    }

pub store_entries-store_row-here-requires : goal.store_entries-store_row-here-requires
store_entries-store_row-here-requires t c =
    let inv = c.loop.invariant in
    let o = first_entry t (goal.at.store_entries-store_row-here-requires t c).In-loop in
    let fields = going_call inv.1 _ o.same c.store_fields-here.ensures.stored in (
      omega (arith, c.decreases),
      (
        (c.requires.block_at.0, record { short = inv.0.short; inside = c.store_fields-here.ensures.at_in_bounds }),
        going_first fields _ refl,
      ),
    )

pub store_entries-store_datas-here-requires : goal.store_entries-store_datas-here-requires
store_entries-store_datas-here-requires t c =
    let inv = c.loop.invariant in
    let o = first_entry t (goal.at.store_entries-store_datas-here-requires t c).In-loop in
    let fields = going_call inv.1 _ o.same c.store_fields-here.ensures.stored in
    let groups = going_call fields _ refl (c.store_row-here.ensures.stored) in
    record {
      block = (c.requires.block_at.0.block, record { short = inv.0.short; inside = c.store_row-here.ensures.at_in_bounds });
      room = going_first groups _ refl;
    }

pub store_entries-loop-preserved-then-follow-ne0 : goal.store_entries-loop-preserved-then-follow-ne0
store_entries-loop-preserved-then-follow-ne0 t c =
    let inv = c.loop.invariant in
    let o = first_entry t (goal.at.store_entries-loop-preserved-then-follow-ne0 t c).In-loop in
    let fields = going_call inv.1 _ o.same c.store_fields-here.ensures.stored in
    let groups = going_call fields _ refl c.store_row-here.ensures.stored in (
      record { short = inv.0.short; inside = c.store_datas-here.ensures.at_in_bounds },
      going_call groups _ refl c.store_datas-here.ensures.stored,
    )

-- A block without groups and data is its fields.
pub store_entries-loop-preserved : goal.store_entries-loop-preserved
store_entries-loop-preserved t c =
    let inv = c.loop.invariant in
    let o = first_entry t (goal.at.store_entries-loop-preserved t c).In-loop in
    let fields = going_call inv.1 _ o.same c.store_fields-here.ensures.stored in
    let none = rw (c.max-follow.ensures, c.max.ensures, c.number.ensures) at c.if-follow-ne0.false in
    let some = some_follow c.requires.block_at.0.block in
    let groups = going_call fields _ refl (stored_none (none_skipped _ _
    (groups_end_lem _ _ _ _ _ _ _ (no_groups_at _ _ _ _ (omega (arith, none, some))))
    (omega (arith, none)))) in (
      record { short = inv.0.short; inside = c.store_fields-here.ensures.at_in_bounds },
      going_call groups _ refl (stored_none (none_skipped _ _
          (datas_end_lem _ _ _ _ _ _ (no_datas_at _ _ _ (omega (arith, none, some)))) (omega (arith, none)))),
    )

pub store_entries-returns-clause-stored : goal.store_entries-returns-clause-stored
store_entries-returns-clause-stored t c =
    going_end c.loop.invariant.1 (stored_none (entries_end _ _ _ _ _ _ _ _ _ _ c.loop-test.false))

-- ---- a row

pub store_row-store_answer-here-requires : goal.store_row-store_answer-here-requires
store_row-store_answer-here-requires t c =
    let g = c.loop-left.invariant.2 in
    going_first g _ (group_absent _ _ _ _ _ _ _ _ _ (c.open_row.ensures.tree) g.room.whole
    (rw c.number.ensures at c.if-m-number.true))

pub store_row-loop-left-preserved-then-m-number : goal.store_row-loop-left-preserved-then-m-number
unfolding end_of
store_row-loop-left-preserved-then-m-number t c =
    let inv = c.loop-left.invariant in
    let g = inv.2 in
    let opened = c.open_row.ensures in
    rw c.number-g-in-loop-left.ensures (
      opened.rest,
      rw c.store_answer-here.ensures.place inv.1,
      going_call g _ (group_absent _ _ _ _ _ _ _ _ _ opened.tree g.room.whole
          (rw c.number.ensures at c.if-m-number.true)) c.store_answer-here.ensures,
    )

pub store_row-entries_of-entries-requires : goal.store_row-entries_of-entries-requires
store_row-entries_of-entries-requires t c = (
  c.open_row.ensures.first,
  c.loop-left.invariant.1.short,
  (group_is_open _ _ _ _ _ _ _ _ _ (c.open_row.ensures.tree) (c.loop-left.invariant.2.room.whole)
      (rw c.number.ensures at c.if-m-number.false)),
)

-- A group that is present was accepted, and what it prints comes first.
first_group : (t : ℕ) (c : store_row-After-entries_of-entries t) → let a = c.args in
    GroupOpen a.m.now.book.now a.depth c.loop-left.g a.m.now.octets.now a.m.now.version
    (groups_at a.m.now.book.now a.depth c.loop-left.left c.loop-left.g)
    (groups_at a.m.now.book.now a.depth (c.loop-left.left - 1) (next_from a.m.now.book.now c.loop-left.g)) a.surplus c.loop-left.here.at
    c.entries_of-entries.result
first_group t c =
    group_open _ _ _ _ _ _ _ _ _ (c.open_row.ensures.tree) (c.loop-left.invariant.2.room.whole)
    (rw c.number.ensures at c.if-m-number.false) _ c.entries_of-entries.ensures

pub store_row-overflow_add-start : goal.store_row-overflow_add-start
store_row-overflow_add-start t c =
    let here = first_group t (goal.at.store_row-overflow_add-start t c).After-entries_of-entries in
    omega (arith, c.dimension_size.ensures, here.good.fits, c.loop-left.invariant.1.short)

pub store_row-store_answer-here-requires-in-loop-left : goal.store_row-store_answer-here-requires-in-loop-left
store_row-store_answer-here-requires-in-loop-left t c =
    let here = first_group t (goal.at.store_row-store_answer-here-requires-in-loop-left t c).After-entries_of-entries in
    rw c.dimension_size.ensures (going_first c.loop-left.invariant.2 _ here.same)

pub store_row-store_entries-here-requires : goal.store_row-store_entries-here-requires
unfolding end_of
store_row-store_entries-here-requires t c =
    let opened = c.open_row.ensures in
    let inv = c.loop-left.invariant in
    let here = first_group t (goal.at.store_row-store_entries-here-requires t c).After-entries_of-entries in
    let is-put = rw c.dimension_size.ensures at c.store_answer-here-in-loop-left.ensures in
    let entries = going_call inv.2 _ here.same is-put in (
      omega (arith, opened.deep, c.decreases),
      (
        (opened.first, here.good.enough, omega (arith, here.good.few_groups), omega (arith, here.good.few_datas)),
        (
          going_first entries _ refl,
          record { short = inv.1.short; inside = omega (arith, is-put.place, here.good.fits) },
        ),
      ),
    )

pub store_row-loop-left-preserved : goal.store_row-loop-left-preserved
store_row-loop-left-preserved t c =
    let inv = c.loop-left.invariant in
    let here = first_group t (goal.at.store_row-loop-left-preserved t c).After-entries_of-entries in
    let is-put = rw c.dimension_size.ensures at c.store_answer-here-in-loop-left.ensures in
    let entries = going_call inv.2 _ here.same is-put in
    rw c.number-g-in-loop-left.ensures (
      c.open_row.ensures.rest,
      record { short = inv.1.short; inside = c.store_entries-here.ensures.at_in_bounds },
      going_call entries _ refl c.store_entries-here.ensures.stored,
    )

pub store_row-pass_groups-requires : goal.store_row-pass_groups-requires
store_row-pass_groups-requires t c =
    let inv = c.loop-left.invariant in (
      skip_accepted _ (groups_end_lem _ _ _ _ _ _ _ (no_groups_at _ _ _ _ (omega (arith, c.loop-left-test.false)))) inv.2.room.whole,
      head_there c.requires.block_at.0.block,
      inv.1.inside,
    )

pub store_row-returns-clause-stored : goal.store_row-returns-clause-stored
store_row-returns-clause-stored t c =
    let inv = c.loop-left.invariant in
    going_end inv.2 (skip_stored _ (groups_end_lem _ _ _ _ _ _ _ (no_groups_at _ _ _ _ (omega (arith, c.loop-left-test.false))))
    inv.2.room.whole c.pass_groups.ensures.0)
