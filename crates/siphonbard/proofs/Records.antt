-- An answer's record as it is stored in a room of its own.
use mathlib.Core.Path.{◌≡◌, ◌∙◌}
use mathlib.Core.List.{[], ◌∷◌, append-nil}
use native.Mathlib.Omega.{arith}
use lib.Seq.{sets, sets-eq}
use Rattle.layout.specs.Values.{record_of}
use Rattle.layout.specs.declared.Answer.{Answer}
use Rattle.layout.proofs.Records.{record_three}

-- It fills the room.
pub filled : (a : Answer) → sets (0 ∷ 0 ∷ 0 ∷ []) 0 (record_of a) ≡ record_of a
filled a =
    sets-eq (record_of a) (0 ∷ 0 ∷ 0 ∷ []) 0 (omega (arith, record_three a))
    ∙ rw (record_three a) (append-nil (record_of a))
