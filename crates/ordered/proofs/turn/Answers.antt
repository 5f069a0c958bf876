-- One octet more is turned at each step.
use Rattle.ordered.proofs.Turns.{turned_next, turned_none}
use Rattle.ordered.proofs.turn.Goals as goal

pub loop-i-init : goal.loop-i-init
loop-i-init g c = turned_none _

pub loop-i-preserved : goal.loop-i-preserved
loop-i-preserved g c = turned_next _ c.loop-i.invariant
