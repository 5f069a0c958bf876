-- None of those that were passed is NUL.
use Prim.Native.Nat.{◌-◌, ◌≤◌}
use Rattle.texts.specs.Least.{Clear}
use Rattle.texts.proofs.clear.Given as goal

abbrev pub invariant-loop-i : goal.invariant-loop-i
invariant-loop-i g l = (l.i ≤ l.n) × Clear l.s l.start l.i

abbrev pub decreases-loop-i : goal.decreases-loop-i
decreases-loop-i g l = l.n - l.i
