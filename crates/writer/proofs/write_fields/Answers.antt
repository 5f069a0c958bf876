-- Some of the block's octets are written, and those from `at` on are to come: the octet after the last field.
use mathlib.Core.Path.{◌≡◌, refl}
use Prim.Native.Nat.{◌+◌, ◌*◌, ◌-◌, ◌<◌}
use native.Mathlib.Nat.{add-zero, sub-zero}
use native.Mathlib.Omega.{arith}
use Rattle.layout.specs.Book.{end, size}
use Rattle.layout.specs.BookRules.{word}
use Rattle.prepared.specs.Positions.{field_at, many_fields, shape_at}
use Rattle.prints.proofs.Going.{going_call, going_first, going_none}
use Rattle.writer.specs.Parts.{fields_part}
use Rattle.writer.proofs.Parts.{FieldOpen, field_open, fields_left, fields_over, value_stored, value_there}
use Rattle.writer.proofs.Zeros.{part_room, part_stored, part_zeros, zeros_on}
use Rattle.writer.proofs.write_fields.Goals as goal
use Rattle.writer.proofs.write_fields.Goals.{After-number}

-- The next field is good, and the zeros up to its offset stand.
opened : (c : After-number) → let a = c.args in let l = a.l.now in
    FieldOpen l.book.now a.a (a.h.fields - c.loop.counter) a.big l.numbers.now l.pool.now c.loop.i
    (fields_part a.big l.numbers.now l.pool.now (word l.book.now (a.a + 2)) 0 (shape_at l.book.now a.a).fields a.c.record)
    a.c.at a.c.at a.room.now c.loop.room
opened c =
    let inv = c.loop.invariant.4 in
    field_open _ _ _ _ _ _ _ (omega (arith, c.loop-test.true, c.loop.invariant.0, c.requires.block.1.fields)) inv.1 inv.2 inv.3

pub loop-init : goal.loop-init
loop-init c =
    let pre = c.requires in
    let head = pre.block.1 in
    let first : c.args.h.fields - c.args.h.fields ≡ 0 = omega arith in
    rw first (
      omega arith,
      omega arith,
      omega (arith, head.table),
      omega arith,
      (0, fields_left _ _ pre.block.0, rw add-zero pre.block.2, simp (add-zero, sub-zero) (going_none pre.room)),
    )

pub overflow_add-at : goal.overflow_add-at
overflow_add-at c =
    omega (arith, (opened (goal.at.overflow_add-at c).After-number).going.room.fits, rw c.loop.invariant.1 at c.number.ensures)

pub slice_bounds-write_value-count : goal.slice_bounds-write_value-count
slice_bounds-write_value-count c =
    omega (arith, (opened (goal.at.slice_bounds-write_value-count c).After-number).going.room.fits, rw c.loop.invariant.1 at c.number.ensures)

pub slice_bounds-write_value-start : goal.slice_bounds-write_value-start
slice_bounds-write_value-start c =
    omega (arith, (opened (goal.at.slice_bounds-write_value-start c).After-number).going.room.fits, rw c.loop.invariant.1 at c.number.ensures)

pub write_value-requires : goal.write_value-requires
write_value-requires c =
    let o = opened (goal.at.write_value-requires c).After-number in
    let inv = c.loop.invariant in
    let head = c.requires.block.1 in
    let block = c.requires.block.0 in
    let within : c.args.h.fields - c.loop.counter < many_fields c.args.l.now.book.now c.args.a =
    omega (arith, inv.0, c.loop-test.true, head.fields) in
    rw (c.number.ensures, inv.1) (record {
      field = (
        rw inv.2 (record { fits = omega (arith, within, block.fields_fit); table_fits = omega (arith, within, block.table_fits); derived = block.derived _ within }),
        part_zeros _ c.loop.room o.zeros,
      );
      room = part_room _ c.loop.room (going_first o.going _ refl);
    })

pub overflow_add-i : goal.overflow_add-i
overflow_add-i c =
    let o = opened (goal.at.overflow_add-i c).After-number in
    omega (arith, value_there _ _ _ _ _ _ (part_room _ c.loop.room (going_first o.going _ refl)), c.well_formed)

pub loop-preserved : goal.loop-preserved
loop-preserved c =
    let a = c.args in
    let inv = c.loop.invariant in
    let o = opened (goal.at.loop-preserved c).After-number in
    let d = c.loop.room in
    let room = going_first o.going _ refl in
    let k = a.h.fields - c.loop.counter in
    let field = field_at a.l.now.book.now (a.a + 12 + 7 * k) in
    let ended : a.c.at + field.offset + size field ≡ a.c.at + end field = omega arith in
    let next : a.h.fields - (c.loop.counter - 1) ≡ k + 1 = omega (arith, inv.0, c.loop-test.true) in
    let stored = rw ended at (part_stored _ d room (value_stored _ _ _ _ _ o.whole room.whole (rw (c.number.ensures, inv.1) at c.write_value.ensures))) in
    let there = value_there _ _ _ _ _ _ (part_room _ d room) in
    rw (next, c.number.ensures, inv.1) (
      omega (arith, inv.0),
      omega arith,
      omega (arith, inv.2),
      omega (arith, there, c.well_formed),
      (end field, o.rest, zeros_on o.zeros stored, going_call o.going _ refl stored),
    )

pub overflow_add-result : goal.overflow_add-result
overflow_add-result c =
    let inv = c.loop.invariant.4 in
    let head = c.requires.block.1 in
    let done = fields_over _ _ _ _ _ _ _ _ (omega (arith, c.loop-test.false, head.fields)) inv.1 inv.2 inv.3 in
    omega (arith, done.taken, head.length, c.requires.room.fits, c.well_formed)

pub returns : goal.returns
returns c =
    let inv = c.loop.invariant.4 in
    let head = c.requires.block.1 in
    rw head.length (fields_over _ _ _ _ _ _ _ _ (omega (arith, c.loop-test.false, head.fields)) inv.1 inv.2 inv.3)
