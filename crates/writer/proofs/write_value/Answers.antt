-- A number and its null are octets of the type's width; an array is octets of the pool, and zeros that stand already.
use native.Mathlib.Omega.{arith}
use Rattle.layout.proofs.TypeLaws.{width_listed}
use Rattle.writer.proofs.Parts.{array_laid, number_laid, value_there}
use Rattle.writer.proofs.write_value.Goals as goal

pub number_for-x-requires : goal.number_for-x-requires
number_for-x-requires c =
    (omega arith, value_there _ _ _ _ _ _ c.requires.room)

pub store-requires : goal.store-requires
store-requires c =
    let d = c.requires.field.0.derived in
    let o = number_laid _ _ _ _ _ _ c.requires.room d (rw c.number.ensures at c.if-number-le1.true) in
    rw c.number-then-number-le1.ensures (rw d.width (width_listed _), omega (arith, o.1))

pub returns-then-number-le1 : goal.returns-then-number-le1
returns-then-number-le1 c =
    let o = number_laid _ _ _ _ _ _ c.requires.room c.requires.field.0.derived (rw c.number.ensures at c.if-number-le1.true) in
    rw (o.0, ← c.number_for-x.ensures, ← c.number-then-number-le1.ensures) c.store.ensures.1

pub second-requires : goal.second-requires
second-requires c =
    value_there _ _ _ _ _ _ c.requires.room

pub third-requires : goal.third-requires
third-requires c =
    value_there _ _ _ _ _ _ c.requires.room

pub put_octets-requires : goal.put_octets-requires
put_octets-requires c =
    let o = array_laid _ _ _ _ _ _ c.requires.room c.requires.field.1 (rw c.number.ensures at c.if-number-le1.false) in
    rw (c.second.ensures, c.third.ensures) (o.1, o.2)

pub returns : goal.returns
returns c =
    let o = array_laid _ _ _ _ _ _ c.requires.room c.requires.field.1 (rw c.number.ensures at c.if-number-le1.false) in
    rw (o.0, ← c.second.ensures, ← c.third.ensures) c.put_octets.ensures
