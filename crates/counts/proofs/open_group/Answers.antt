-- Whatever is surplus, or wrong with the counts, a block that is too short is told first.
use native.Mathlib.Omega.{arith}
use Rattle.layout.specs.Message.{count_good}
use Rattle.wire.proofs.Steps.{steps}
use Rattle.counts.proofs.Groups.{openings}
use Rattle.counts.proofs.open_group.Goals as goal
use Rattle.counts.proofs.open_group.Goals.{in_default-via-in-Err+in_default, in_default-via-in-Ok}

pub returns-in_default : goal.returns-in_default
unfolding openings count_good
returns-in_default c =
    elim c.in_default.branch [
      | in_default-via-in-Err+in_default w ↦ grind (arith, steps)
      | in_default-via-in-Ok w ↦ grind (arith, steps)
    ]
