-- A slot whose block has the id leads to the template; the search finds it otherwise.
use native.Mathlib.Omega.{arith}
use Prim.Native.Nat.{◌%◌}
use Rattle.prepared.specs.Books.{IsSlot}
use Rattle.prepared.proofs.Found.{slot_leads}
use Rattle.prepared.proofs.find.Goals as goal
use Rattle.prepared.proofs.find.Goals.{After-number-a}

slot : (c : After-number-a) → IsSlot c.args.p.now c.number-a.result
slot c =
    rw c.number-a.ensures (c.requires.slot (c.args.id % 64) (omega arith))

pub returns-then-number-id : goal.returns-then-number-id
returns-then-number-id c =
    slot_leads _ c.requires _ _ (slot (goal.at.returns-then-number-id c).After-number-a) c.if-a-gt0.true
    (rw c.number.ensures at c.if-number-id.true)
