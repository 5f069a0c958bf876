-- One octet more is stored at each step.
use mathlib.Core.Path.{refl}
use Rattle.layout.specs.Octets.{lowest}
use Rattle.octets.proofs.Joined.{eight_bits, laid_next}
use Rattle.octets.proofs.put.Goals as goal

pub loop-i-init : goal.loop-i-init
unfolding lowest
loop-i-init g c = refl

pub loop-i-preserved : goal.loop-i-preserved
loop-i-preserved g c =
    rw (c.loop-i.invariant, eight_bits c.loop-i.i) (laid_next _ _ _ _)
