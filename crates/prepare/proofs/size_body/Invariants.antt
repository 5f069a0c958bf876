-- Blocks were seen, and those that are left lie one after the other.
use Rattle.std.proofs.Common.{◌-◌}
use Rattle.prepare.proofs.Sizes.{Seeing}
use Rattle.prepare.proofs.size_body.Given as goal

abbrev pub invariant-loop-w : goal.invariant-loop-w
invariant-loop-w l =
    Seeing l.body l.w l.seen

abbrev pub decreases-loop-w : goal.decreases-loop-w
decreases-loop-w l =
    l.end - l.w
