-- Where the header is the template's own nothing is to refuse.
use mathlib.Core.Path.{sym}
use Rattle.prepared.proofs.Found.{found}
use Rattle.messages.proofs.Openings.{opens_own}
use Rattle.messages.proofs.open_by_header.Goals as goal

pub is_own-requires : goal.is_own-requires
is_own-requires c =
    (found _ c.requires.0 _ _ (sym c.in-Some.ensures)).block.block

pub returns-in-Some : goal.returns-in-Some
returns-in-Some c =
    opens_own _ c.requires.0 _ c.requires.1 _ c.requires.2 _
    (sym c.in-Some.ensures) (sym c.if-is_own.ensures)
