-- From the block that is reached what is left of the steps finds the same place.
use mathlib.Core.Path.{refl, sym, ◌∙◌}
use native.Mathlib.Omega.{arith}
use borrow.Author.Tests.{le-ltb, lt-ltb}
use Rattle.layout.specs.Result.{when◌then◌else◌}
use Rattle.places.proofs.Blocks.{place_ends, place_lacks, place_on}
use Rattle.places.proofs.find_place.Goals as goal

pub returns-then-number-g : goal.returns-then-number-g
returns-then-number-g c =
    let inv = c.loop-i.invariant in
    sym (inv.same ∙ place_lacks _ _ _ c.loop-i.i _ inv.stands (omega arith)
    (rw (c.number.ensures, c.number-g.ensures) at c.if-number-g.true))

pub loop-i-preserved : goal.loop-i-preserved
loop-i-preserved c =
    let inv = c.loop-i.invariant in
    let less = rw (c.number.ensures, c.number-g.ensures) at c.if-number-g.false in
    let on = place_on _ _ _ c.loop-i.i _ inv.stands (omega arith) less in
    rw (c.group_place-a.ensures.place, c.number-g.ensures) record { stands = on.0; same = inv.same ∙ on.1 }

pub returns-then-number_of-count_of : goal.returns-then-number_of-count_of
unfolding when◌then◌else◌
returns-then-number_of-count_of c =
    let inv = c.loop-i.invariant in
    let has = rw (c.number_of.ensures, c.count_of.ensures) at c.if-number_of-count_of.true in
    sym (inv.same ∙ place_ends _ _ _ c.loop-i.i _ inv.stands (omega arith) ∙ rw (lt-ltb _ _ has) refl)

pub returns : goal.returns
unfolding when◌then◌else◌
returns c =
    let inv = c.loop-i.invariant in
    let lacks = rw (c.number_of.ensures, c.count_of.ensures) at c.if-number_of-count_of.false in
    sym (inv.same ∙ place_ends _ _ _ c.loop-i.i _ inv.stands (omega arith) ∙ rw (le-ltb _ _ lacks) refl)
