-- A length, and then the octets in the part that follows.
use native.Mathlib.Omega.{arith}
use Rattle.writer.proofs.Parts.{data_laid, data_open}
use Rattle.writer.proofs.Zeros.{part_long}
use Rattle.writer.proofs.write_data.Goals as goal

pub third-len-requires : goal.third-len-requires
third-len-requires c =
    (data_open _ _ _ c.requires).there

pub put-requires : goal.put-requires
put-requires c =
    (omega arith, omega (arith, (data_open _ _ _ c.requires).fits))

pub slice_bounds-put_octets-count : goal.slice_bounds-put_octets-count
slice_bounds-put_octets-count c =
    omega (arith, (data_open _ _ _ c.requires).fits)

pub slice_bounds-put_octets-start : goal.slice_bounds-put_octets-start
slice_bounds-put_octets-start c =
    omega (arith, (data_open _ _ _ c.requires).fits)

pub second-requires : goal.second-requires
second-requires c =
    (data_open _ _ _ c.requires).there

pub put_octets-requires : goal.put_octets-requires
put_octets-requires c =
    let o = data_open _ _ _ c.requires in
    rw (c.third-len.ensures, c.second.ensures) (omega (arith, o.fits, part_long 2 c.put.new.s), o.within)

pub overflow_add-result : goal.overflow_add-result
overflow_add-result c =
    omega (arith, (data_open _ _ _ c.requires).fits)

pub returns : goal.returns
returns c =
    let o = data_open _ _ _ c.requires in (
      rw c.third-len.ensures (data_laid _ _ _ o (rw c.third-len.ensures at c.put.ensures)
          (rw (c.third-len.ensures, c.second.ensures) at c.put_octets.ensures)),
      omega (arith, o.there, c.well_formed),
    )
