-- The storing pass calls itself: a row's groups, a group's entries with their rows. Of a part's octets some are written
-- and the others are to come; the measure of a call is the depth left, and within a depth the order of the calls.
use Prim.Native.Nat.{◌+◌, ◌*◌}
use Rattle.prepared.specs.Positions.{IsRow, groups_at, inner_at, is_big, is_counted}
use Rattle.prints.proofs.Going.{Going}
use Rattle.writer.specs.Zeros.{ZerosFrom}
use Rattle.writer.specs.Parts.{entries_at, groups_part}
use Rattle.writer.proofs.+write_entries_write_row.Given as goal

abbrev pub decreases-write_entries : goal.decreases-write_entries
decreases-write_entries l = 2 * l.depth + 1

abbrev pub decreases-write_row : goal.decreases-write_row
decreases-write_row l = 2 * l.depth

abbrev pub invariant-write_entries-loop : goal.invariant-write_entries-loop
invariant-write_entries-loop l =
    let part = entries_at l.l.numbers.now l.l.pool.now l.l.book.now l.depth l.a in
    ZerosFrom l.here.at l.room
    × Going (part l.k l.initial.here.record) (part l.counter l.here.record) l.initial.here.at l.initial.room l.here.at l.room

abbrev pub invariant-write_row-loop-left : goal.invariant-write_row-loop-left
invariant-write_row-loop-left l =
    let p = l.l.book.now in
    let part = groups_part (is_counted p) (is_big p) l.l.numbers.now l.l.pool.now in
    IsRow p l.depth l.left l.g × ZerosFrom l.here.at l.room
    × Going (part (inner_at p l.depth l.a) l.initial.here.record) (part (groups_at p l.depth l.left l.g) l.here.record)
    l.initial.here.at l.initial.room l.here.at l.room
