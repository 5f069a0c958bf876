-- Two numbers, and two more where there are counts: those of the tree.
use mathlib.Core.Path.{◌≡◌, ◌∙◌, refl, sym}
use native.Mathlib.Omega.{arith}
use lib.ListN.{length}
use Rattle.layout.specs.Message.{dimension_size}
use Rattle.layout.specs.Writing.{counts_of, dimension_of}
use Rattle.layout.proofs.Accepted.{datas_length_lem}
use Rattle.layout.proofs.Lengths.{counts_long}
use Rattle.layout.proofs.Stands.{length_numbers}
use Rattle.prepared.specs.Positions.{inner_at, is_big, is_counted, shape_at}
use Rattle.prepared.proofs.Open.{length_row}
use Rattle.prints.specs.Prints.{end_of, numbers_of}
use Rattle.writer.specs.Parts.{dimension_at}
use Rattle.writer.proofs.Message.{four_numbers}
use Rattle.writer.proofs.put_dimension.Goals as goal
use Rattle.writer.proofs.put_dimension.Goals.{Start, then-is_counted, else-is_counted}

-- Its numbers are as many octets as a dimension has.
long : (c : Start) → let a = c.args in
    length (numbers_of (dimension_at a.p.now a.depth a.a a.k a.c.record)) ≡ dimension_size (is_counted a.p.now)
unfolding numbers_of
long c =
    let p = c.args.p.now in
    let s = shape_at p c.args.a in
    let gs = inner_at p c.args.depth c.args.a in
    omega (arith, length_numbers (is_big p) (dimension_of (is_counted p) s gs c.args.k), counts_long (is_counted p) gs s.datas)

pub put_two-requires : goal.put_two-requires
put_two-requires c =
    omega (arith, c.requires.room.fits, long (goal.at.put_two-requires c).Start)

pub put_two-requires-then-is_counted : goal.put_two-requires-then-is_counted
put_two-requires-then-is_counted c =
    let eight : dimension_size (is_counted c.args.p.now) ≡ 8 = rw (sym c.is_counted.ensures ∙ c.if-is_counted.true) refl in
    omega (arith, c.requires.room.fits, long (goal.at.put_two-requires-then-is_counted c).Start, eight)

pub returns : goal.returns
unfolding end_of numbers_of counts_of
returns c =
    record {
      place = refl;
      taken = omega (arith, c.dimension_size.ensures, long (goal.at.returns c).Start);
      room = elim c.if-is_counted.branch [
        | then-is_counted w ↦ rw (sym c.is_counted.ensures ∙ w.if-is_counted.true, length_row _ _ _ _ c.requires.block_at.0.row, datas_length_lem, w.room-is, w.put_two-then-is_counted.ensures, c.put_two.ensures, c.is_big-big.ensures)
            (four_numbers _ _ _ _ _ _ _)
        | else-is_counted w ↦ rw (sym c.is_counted.ensures ∙ w.if-is_counted.false, w.room-is, c.put_two.ensures, c.is_big-big.ensures) refl
      ];
    }
