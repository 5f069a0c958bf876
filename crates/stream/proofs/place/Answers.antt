-- A place that no book has is told as one.
use mathlib.Core.Logic.{inl, inr}
use mathlib.Core.Path.{◌∙◌, ap, sym}
use Rattle.stream.specs.Places.{no_place}
use Rattle.stream.proofs.Places.{nowhere, unknown}
use Rattle.stream.proofs.place.Goals as goal
use Rattle.stream.proofs.place.Goals.{then-steps-eq1-via-then-steps-eq1, then-steps-eq1-via-else-steps-eq1+then-steps-gt8}

pub returns-then-steps-eq1 : goal.returns-then-steps-eq1
returns-then-steps-eq1 c =
    unknown _ _ c.no_place.ensures ∙ ap no_place c.check.ensures
    ∙ sym (nowhere _ _ _ _ (elim c.then-steps-eq1.branch [
      | then-steps-eq1-via-then-steps-eq1 w ↦ inl w.if-steps-eq1.true
      | then-steps-eq1-via-else-steps-eq1+then-steps-gt8 w ↦ inr (w.if-steps-eq1.false, w.if-steps-gt8.true)
    ]))
