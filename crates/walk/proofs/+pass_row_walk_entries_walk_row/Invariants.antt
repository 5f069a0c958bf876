-- The walk calls itself: a row's groups, a group's entries with their rows. The measure of a call is the depth left,
-- and within a depth the order of the calls.
use Prim.Native.Nat.{◌+◌, ◌-◌, ◌*◌, ◌≤◌}
use Rattle.prepared.specs.Positions.{IsRow}
use Rattle.walk.specs.Walks.{entries_by, row_at, values_end, walked}
use Rattle.walk.proofs.Ways.{Way}
use Rattle.walk.proofs.+pass_row_walk_entries_walk_row.Given as goal

abbrev pub decreases-pass_row : goal.decreases-pass_row
decreases-pass_row l = 3 * l.depth + 1

abbrev pub decreases-walk_entries : goal.decreases-walk_entries
decreases-walk_entries l = 3 * l.depth + 2

abbrev pub decreases-walk_row : goal.decreases-walk_row
decreases-walk_row l = 3 * l.depth

abbrev pub invariant-walk_entries-loop : goal.invariant-walk_entries-loop
invariant-walk_entries-loop l =
    Way l.m.octets.now l.start (96 * l.k) (walked (values_end 0) (entries_by l.m.book.now l.depth l.a l.m.octets.now l.m.version l.over.groups l.over.datas l.l l.k l.start))
    (walked (values_end l.seen) (entries_by l.m.book.now l.depth l.a l.m.octets.now l.m.version l.over.groups l.over.datas l.l (l.k - l.counter) l.at)) l.seen (96 * (l.k - l.counter)) l.at

abbrev pub invariant-walk_row-loop-left : goal.invariant-walk_row-loop-left
invariant-walk_row-loop-left l =
    record {
      row : IsRow l.m.book.now l.depth l.left l.a;
      way : Way l.m.octets.now l.start l.n (walked (values_end 0) (row_at l.m.book.now l.depth l.n l.first l.m.octets.now l.m.version l.surplus l.start))
          (walked (values_end (l.seen - l.left)) (row_at l.m.book.now l.depth l.left l.a l.m.octets.now l.m.version l.surplus l.at)) (l.seen - l.left) l.left l.at;
      more : l.left ≤ l.seen;
    }
