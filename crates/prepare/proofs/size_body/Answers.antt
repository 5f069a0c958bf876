-- Blocks were seen, and those that are left lie one after the other.
use Rattle.prepare.proofs.Sizes.{seeing_starts}
use Rattle.prepare.proofs.size_body.Goals as goal

pub loop-w-init : goal.loop-w-init
loop-w-init c =
    seeing_starts _ c.requires.0 _ _ c.groups_from-w.ensures c.size_block-seen.ensures
