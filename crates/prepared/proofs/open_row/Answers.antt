-- The law itself.
use Rattle.prepared.proofs.Open.{open_row}
use Rattle.prepared.proofs.open_row.Goals as goal

pub returns : goal.returns
returns c =
    open_row _ _ _ _ c.requires.1 c.requires.0
