-- Its elements are stored, then its groups one after the other, and its head when it is known where they end. The
-- measure of a call is the depth left.
use Rattle.std.proofs.Common.{◌≡◌, ◌+◌, ◌-◌, ◌≤◌, length, ap, arith}
use lib.Seq.{length-sets}
use Rattle.prepare.proofs.Rows.{end_is, first_fits, group_stored, groups_stored, next_is, storing_on}
use Rattle.prepare.proofs.Rows.{storing_starts}
use Rattle.prepare.proofs.+put_group.Goals as goal

pub loop-i-init : goal.loop-i-init
loop-i-init t c =
    let long = rw length-sets at (ap length c.put_elements-need.ensures.room_after) in
    let none-yet : c.word-many.result - 0 ≡ c.word-many.result = omega arith in
    rw none-yet
    (storing_starts _ _ _ _ _ _ _ _ _ _ _ _ c.requires.1 (omega (arith, long, c.requires.2)) c.word-many.ensures.value
    c.groups_from-x.ensures (omega (arith, c.size_block.ensures)))

pub put_group-r-requires : goal.put_group-r-requires
put_group-r-requires t c =
    let opened = c.open_row.ensures in
    (omega (arith, opened.deep, c.decreases), (c.requires.0, opened.block, first_fits _ _ _ _ c.loop-i.invariant opened 0 0))

pub loop-i-preserved : goal.loop-i-preserved
loop-i-preserved t c =
    let made = c.put_group-r.ensures in
    let one-less : c.word-many.result - c.loop-i.i - 1 ≡ c.word-many.result - (c.loop-i.i + 1) = omega arith in
    rw one-less at (storing_on _ _ _ _ c.loop-i.invariant c.open_row.ensures _ _ c.word.ensures.value
    c.word-in-loop-i.ensures.value c.put_group-r.result _ made.word_value.0 made.word_value.1 made.room_after)

pub returns : goal.returns
returns t c =
    let inv = c.loop-i.invariant in
    let elements = c.put_elements-need.ensures in
    let none-left : c.word-many.result - c.loop-i.i ≤ 0 = omega arith in
    let next = next_is _ _ _ _ inv none-left in
    record {
      word_value = (end_is _ _ _ _ inv none-left, next);
      room_after = group_stored _ _ _ _ _ _ _ c.requires.1 _ _ _ _ _ c.args.room.now _ _ _ elements.value next
          elements.room_after (groups_stored _ _ _ _ inv none-left) (rw c.order_of.ensures.value at c.put_head.ensures);
    }
