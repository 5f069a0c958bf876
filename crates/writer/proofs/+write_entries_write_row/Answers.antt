-- The storing pass calls itself: a row's groups, a group's entries with their rows. Of a part's octets some are written
-- and the others are to come; the measure of a call is the depth left, and within a depth the order of the calls.
use mathlib.Core.Path.{refl}
use native.Mathlib.Omega.{arith}
use Rattle.prepared.proofs.Open.{some_follow}
use Rattle.layout.proofs.Accepted.{datas_length_lem}
use Rattle.prints.proofs.Going.{going_call, going_end, going_first, going_none, stored_none}
use Rattle.writer.proofs.Parts.{datas_end, entries_end, entries_step, group_open, groups_end}
use Rattle.writer.proofs.Zeros.{zeros_on}
use Rattle.writer.proofs.+write_entries_write_row.Goals as goal

pub write_entries-head_at-block-requires : goal.write_entries-head_at-block-requires
write_entries-head_at-block-requires t c =
    c.requires.block_at.0.block

pub write_entries-loop-init : goal.write_entries-loop-init
write_entries-loop-init t c =
    let pre = c.requires in
    (pre.block_at.1, going_none pre.room)

pub write_entries-write_block-here-requires : goal.write_entries-write_block-here-requires
write_entries-write_block-here-requires t c =
    let inv = c.loop.invariant in
    record {
      block = (c.requires.block_at.0.block, c.head_at-block.ensures, inv.0);
      room = going_first inv.1 _ (entries_step _ _ _ _ _ _ _ c.loop-test.true);
    }

pub write_entries-write_row-here-requires : goal.write_entries-write_row-here-requires
write_entries-write_row-here-requires t c =
    let inv = c.loop.invariant in
    let fields = c.write_block-here.ensures in
    let laid = going_call inv.1 _ (entries_step _ _ _ _ _ _ _ c.loop-test.true) fields in (
      omega (arith, c.decreases),
      ((c.requires.block_at.0, zeros_on inv.0 fields), going_first laid _ refl),
    )

pub write_entries-write_datas-here-requires : goal.write_entries-write_datas-here-requires
write_entries-write_datas-here-requires t c =
    let laid = going_call c.loop.invariant.1 _ (entries_step _ _ _ _ _ _ _ c.loop-test.true) c.write_block-here.ensures in
    let groups = going_call laid _ refl c.write_row-here.ensures in
    record { block = c.requires.block_at.0.block; room = rw datas_length_lem at (going_first groups _ refl) }

pub write_entries-loop-preserved-then-block-ne0 : goal.write_entries-loop-preserved-then-block-ne0
write_entries-loop-preserved-then-block-ne0 t c =
    let inv = c.loop.invariant in
    let fields = c.write_block-here.ensures in
    let laid = going_call inv.1 _ (entries_step _ _ _ _ _ _ _ c.loop-test.true) fields in
    let groups = going_call laid _ refl c.write_row-here.ensures in (
      zeros_on (zeros_on (zeros_on inv.0 fields) c.write_row-here.ensures) c.write_datas-here.ensures,
      going_call (rw datas_length_lem at groups) _ refl c.write_datas-here.ensures,
    )

-- Where the block has neither groups nor data its fields are all of it.
pub write_entries-loop-preserved : goal.write_entries-loop-preserved
write_entries-loop-preserved t c =
    let inv = c.loop.invariant in
    let fields = c.write_block-here.ensures in
    let laid = going_call inv.1 _ (entries_step _ _ _ _ _ _ _ c.loop-test.true) fields in
    let block = c.requires.block_at.0.block in
    let none = rw c.head_at-block.ensures.follow at c.if-block-ne0.false in
    let groups = going_call laid _ refl (stored_none (groups_end _ _ _ _ _ _ _ _ _ (omega (arith, none, some_follow block)))) in (
      zeros_on inv.0 fields,
      going_call groups _ refl (stored_none (datas_end _ _ _ _ _ (rw datas_length_lem (omega (arith, none, some_follow block))))),
    )

pub write_entries-returns : goal.write_entries-returns
write_entries-returns t c =
    going_end c.loop.invariant.1 (stored_none (entries_end _ _ _ _ _ _ _ (omega (arith, c.loop-test.false))))

pub write_row-loop-left-init : goal.write_row-loop-left-init
write_row-loop-left-init t c =
    let pre = c.requires in
    rw (c.number-g.ensures, c.number-left.ensures) (pre.block_at.0.row, pre.block_at.1, going_none pre.room)

pub write_row-overflow_sub-below : goal.write_row-overflow_sub-below
write_row-overflow_sub-below t c =
    omega (arith, c.open_row.ensures.deep)

pub write_row-second-k-requires : goal.write_row-second-k-requires
write_row-second-k-requires t c =
    (group_open _ _ _ _ _ _ _ _ _ c.open_row.ensures.tree c.loop-left.invariant.2.room.whole).there

pub write_row-put_dimension-here-requires : goal.write_row-put_dimension-here-requires
write_row-put_dimension-here-requires t c =
    let inv = c.loop-left.invariant in
    let o = group_open _ _ _ _ _ _ _ _ _ c.open_row.ensures.tree inv.2.room.whole in
    record {
      block_at = (c.open_row.ensures.first, omega (arith, o.there, c.well_formed));
      room = rw c.second-k.ensures (going_first inv.2 _ o.same);
    }

pub write_row-write_entries-here-requires : goal.write_row-write_entries-here-requires
write_row-write_entries-here-requires t c =
    let k = c.second-k.ensures in
    let opened = c.open_row.ensures in
    let inv = c.loop-left.invariant in
    let stored = rw k at c.put_dimension-here.ensures in (
      omega (arith, opened.deep, c.decreases),
      (
        (opened.first, zeros_on inv.1 stored),
        rw k (going_first (going_call inv.2 _ ((group_open _ _ _ _ _ _ _ _ _ opened.tree inv.2.room.whole).same) stored) _ refl),
      ),
    )

pub write_row-loop-left-preserved : goal.write_row-loop-left-preserved
write_row-loop-left-preserved t c =
    let k = c.second-k.ensures in
    let inv = c.loop-left.invariant in
    let stored = rw k at c.put_dimension-here.ensures in
    let entries = rw k at c.write_entries-here.ensures in
    rw c.number-g-in-loop-left.ensures (
      c.open_row.ensures.rest,
      zeros_on (zeros_on inv.1 stored) entries,
      going_call (going_call inv.2 _ ((group_open _ _ _ _ _ _ _ _ _ c.open_row.ensures.tree inv.2.room.whole).same) stored) _ refl entries,
    )

pub write_row-returns : goal.write_row-returns
write_row-returns t c =
    going_end c.loop-left.invariant.2 (stored_none (groups_end _ _ _ _ _ _ _ _ _ (omega (arith, c.loop-left-test.false))))
