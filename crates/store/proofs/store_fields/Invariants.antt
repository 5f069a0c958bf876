-- Of the records of the fields some are stored, and those of the fields that are left are to come.
use Rattle.std.proofs.Common.{◌≡◌, ◌+◌, ◌*◌, ◌≤◌}
use Rattle.layout.specs.Result.{Each}
use Rattle.layout.specs.BookRules.{parse_fields}
use Rattle.prepared.specs.Names.{lists_at}
use Rattle.prepared.specs.Positions.{fields_from, is_big, many_fields, shape_at, table_from}
use Rattle.fields.specs.Readable.{Fits}
use Rattle.prints.proofs.Going.{Going}
use Rattle.store.specs.Stores.{fields_print}
use Rattle.store.proofs.store_fields.Given as goal

abbrev pub invariant-loop : goal.invariant-loop
invariant-loop l =
    let p = l.m.book.now in
    let m = l.m.octets.now in
    let v = l.m.version in
    let fields = parse_fields (lists_at p) p l.counter l.f in
    (l.counter ≤ many_fields p l.a)
    × (l.f + 7 * l.counter ≡ fields_from p l.a + 7 * many_fields p l.a)
    × (l.t + 6 * l.counter ≡ table_from p l.a + 6 * many_fields p l.a)
    × Each (Fits m v l.c.at) fields
    × Going (fields_print (is_big p) m v (shape_at p l.a).fields l.l l.c.at) (fields_print (is_big p) m v fields l.l l.c.at)
    l.initial.n l.initial.room l.n l.room
