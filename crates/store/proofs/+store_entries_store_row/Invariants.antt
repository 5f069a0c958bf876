-- The storing pass calls itself as the walk does. Of the whole's numbers some are stored, and those of what is left are
-- to come (`Going`). The measure of a call is the depth left, and within a depth the order of the calls.
use Prim.Native.Nat.{◌+◌, ◌*◌}
use Rattle.prepared.specs.Positions.{IsRow, groups_at, inner_at}
use Rattle.wire.specs.Walks.{Lent}
use Rattle.prints.proofs.Going.{Going}
use Rattle.store.specs.Stores.{entries_print, groups_print, sized_print}
use Rattle.store.proofs.+store_entries_store_row.Given as goal

abbrev pub decreases-store_entries : goal.decreases-store_entries
decreases-store_entries l = 2 * l.depth + 1

abbrev pub decreases-store_row : goal.decreases-store_row
decreases-store_row l = 2 * l.depth

abbrev pub invariant-store_entries-loop : goal.invariant-store_entries-loop
invariant-store_entries-loop l =
    let p = l.m.book.now in
    let m = l.m.octets.now in
    let v = l.m.version in
    let e = l.entries in
    Lent m l.here.at
    × Going (sized_print p l.depth l.a m v e l.initial.here.at)
    (entries_print p l.depth l.a m v e.surplus.groups e.surplus.datas e.length l.counter l.here.at)
    l.initial.here.n l.initial.room l.here.n l.room

abbrev pub invariant-store_row-loop-left : goal.invariant-store_row-loop-left
invariant-store_row-loop-left l =
    let p = l.m.book.now in
    let m = l.m.octets.now in
    let v = l.m.version in
    IsRow p l.depth l.left l.g × Lent m l.here.at
    × Going (groups_print p l.depth m v (inner_at p l.depth l.a) l.surplus l.initial.here.at)
    (groups_print p l.depth m v (groups_at p l.depth l.left l.g) l.surplus l.here.at) l.initial.here.n l.initial.room
    l.here.n l.room
