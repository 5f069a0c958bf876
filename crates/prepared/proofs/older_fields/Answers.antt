-- The first field that is absent is the first of those that are: sinces never fall.
use native.Mathlib.Omega.{arith}
use Rattle.std.proofs.Common.{rules}
use Rattle.prepared.proofs.Needs.{fields_up_to}
use Rattle.prepared.proofs.older_fields.Goals as goal

pub returns : goal.returns
returns c =
    let r = c.first_past.result in
    fields_up_to _ _ _ r c.requires (omega (arith, c.number.ensures))
    (λ h. search (rules, c.first_past.ensures.below h)) (λ h. search (rules, c.number.ensures, c.first_past.ensures.past))
