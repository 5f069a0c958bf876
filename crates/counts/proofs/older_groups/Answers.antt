-- The row goes on.
use native.Mathlib.Omega.{arith}
use Rattle.wire.proofs.Steps.{steps}
use Rattle.counts.proofs.Counts.{group_seen}
use Rattle.counts.proofs.older_groups.Goals as goal

pub loop-left-preserved : goal.loop-left-preserved
loop-left-preserved c =
    let next = group_seen c.args.v c.open_row.ensures in
    (rw c.number-g-in-loop-left.ensures c.open_row.ensures.rest, grind arith, grind (arith, steps))
