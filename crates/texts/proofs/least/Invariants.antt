-- The least of those that were looked at.
use mathlib.Core.Path.{◌≡◌}
use Rattle.texts.specs.Least.{least}
use Rattle.texts.proofs.least.Given as goal

abbrev pub invariant-loop-i : goal.invariant-loop-i
invariant-loop-i g l = l.low ≡ least l.s l.at l.i
