-- Some of the block's octets are written, and those from `at` on are to come: the octet after the last field.
use mathlib.Core.Path.{◌≡◌}
use Prim.Native.Nat.{ℕ, ◌+◌, ◌*◌, ◌-◌, ◌<◌, ◌≤◌, ◌^◌}
use Rattle.layout.specs.BookRules.{word}
use Rattle.prepared.specs.Positions.{fields_from, shape_at, table_from}
use Rattle.prints.proofs.Going.{Going}
use Rattle.writer.specs.Zeros.{ZerosFrom}
use Rattle.writer.specs.Parts.{fields_part}
use Rattle.writer.proofs.Parts.{FieldsLeft, fields_after}
use Rattle.writer.proofs.write_fields.Given as goal

abbrev pub invariant-loop : goal.invariant-loop
invariant-loop l =
    let p = l.l.book.now in
    let part = fields_part l.big l.l.numbers.now l.l.pool.now (word p (l.a + 2)) in
    let k = l.h.fields - l.counter in
    (l.counter ≤ l.h.fields) × (l.f ≡ fields_from p l.a + 7 * k) × (l.t ≡ table_from p l.a + 6 * k) × (l.i < 2 ^ 64)
    × ((at : ℕ) × FieldsLeft p l.a k at × ZerosFrom (l.c.at + at) l.room
    × Going (part 0 (shape_at p l.a).fields l.c.record) (part at (fields_after p l.a k) l.i)
    l.c.at l.initial.room (l.c.at + at) l.room)
