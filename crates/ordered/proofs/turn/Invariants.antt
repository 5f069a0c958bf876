-- What was turned of the number.
use Rattle.ordered.specs.Order.{Turned}
use Rattle.ordered.proofs.turn.Given as goal

abbrev pub invariant-loop-i : goal.invariant-loop-i
invariant-loop-i g l = Turned l.i l.x l.turned
