-- Of the records of the data some are stored, and those of the data that are left are to come.
use Prim.Native.Nat.{◌+◌, ◌*◌, ◌-◌}
use Rattle.layout.specs.BookRules.{parse_datas}
use Rattle.prepared.specs.Positions.{datas_from, is_big, many_datas, shape_at}
use Rattle.wire.specs.Walks.{Lent}
use Rattle.prints.proofs.Going.{Going}
use Rattle.store.specs.Stores.{datas_print}
use Rattle.store.proofs.store_datas.Given as goal

abbrev pub invariant-loop-i : goal.invariant-loop-i
invariant-loop-i l =
    let p = l.m.book.now in
    let m = l.m.octets.now in
    let v = l.m.version in
    let datas = parse_datas p (many_datas p l.a - l.i) (datas_from p l.a + 2 * l.i) in
    Lent m l.here.at
    × Going (datas_print (is_big p) m v (shape_at p l.a).datas l.n l.initial.here.at) (datas_print (is_big p) m v datas l.n l.here.at)
    l.initial.here.n l.initial.room l.here.n l.room
