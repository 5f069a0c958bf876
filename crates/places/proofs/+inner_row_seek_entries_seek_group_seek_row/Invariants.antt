-- The walk along a path calls itself: a row, the group that a step leads to, its entries, the row of an entry. The
-- measure of a call is the depth left, and within a depth the order of the calls.
use mathlib.Core.Path.{◌≡◌}
use Prim.Native.Nat.{◌+◌, ◌*◌, ◌≤◌}
use lib.ListN.{length}
use Rattle.std.specs.Prelude.{None}
use Rattle.places.specs.Seeks.{entries_sought}
use Rattle.places.proofs.Seeks.{entries_left}
use Rattle.places.proofs.+inner_row_seek_entries_seek_group_seek_row.Given as goal

abbrev pub decreases-inner_row : goal.decreases-inner_row
decreases-inner_row l = 4 * l.depth + 2

abbrev pub decreases-seek_entries : goal.decreases-seek_entries
decreases-seek_entries l = 4 * l.depth + 3

abbrev pub decreases-seek_group : goal.decreases-seek_group
decreases-seek_group l = 4 * l.depth

abbrev pub decreases-seek_row : goal.decreases-seek_row
decreases-seek_row l = 4 * l.depth + 1

-- What is left of the entries, of which n were passed, is sought as all of them are.
abbrev pub invariant-seek_entries-loop : goal.invariant-seek_entries-loop
invariant-seek_entries-loop l =
    let p = l.m.book.now in
    let m = l.m.octets.now in
    record {
      inside : l.at ≤ length m;
      whole : entries_sought p l.depth l.a m l.m.version l.path.now l.i l.entries l.start
          ≡ entries_left p l.depth l.a m l.m.version l.path.now l.i l.entries l.counter None l.at;
    }

abbrev pub invariant-seek_entries-loop-2 : goal.invariant-seek_entries-loop-2
invariant-seek_entries-loop-2 l =
    let p = l.m.book.now in
    let m = l.m.octets.now in
    record {
      inside : l.at ≤ length m;
      whole : entries_sought p l.depth l.a m l.m.version l.path.now l.i l.entries l.start
          ≡ entries_left p l.depth l.a m l.m.version l.path.now l.i l.entries l.counter l.row.spot l.at;
    }
