-- What was stored of the number.
use mathlib.Core.Path.{◌≡◌}
use lib.Seq.{sets}
use Rattle.layout.specs.Octets.{lowest}
use Rattle.octets.proofs.put.Given as goal

abbrev pub invariant-loop-i : goal.invariant-loop-i
invariant-loop-i g l = l.s ≡ sets l.fn.s l.at (lowest l.i l.x)
