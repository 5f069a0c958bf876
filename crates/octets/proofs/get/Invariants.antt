-- What was read of the number.
use Rattle.octets.specs.Spelt.{Spelt}
use Rattle.octets.proofs.get.Given as goal

abbrev pub invariant-loop-i : goal.invariant-loop-i
invariant-loop-i g l = Spelt l.i l.s l.at l.x
