-- The place is that of the template's block.
use mathlib.Core.Path.{◌∙◌, sym}
use Rattle.prepared.proofs.Found.{found}
use Rattle.messages.proofs.open_any.Goals as goal

pub open_by-requires : goal.open_by-requires
open_by-requires c =
    (found _ c.requires.0 _ _ (sym c.requires.3 ∙ c.in-Some.is)).block
