-- Each return is the definition's case by the tests that led there.
use Rattle.std.proofs.Common.{◌≡◌, leb, sym, refl, ◌∙◌, ◌+◌, ◌%◌, ◌-◌, arith, eq-eqb, ne_eqb, le-leb}
use borrow.Author.Tests.{lt-leb}
use Rattle.layout.specs.Result.{◌and◌, when◌then◌else◌}
use Rattle.layout.specs.Types.{classify, in_range, type_at}
use Rattle.prepared.specs.Positions.{field_at}
use Rattle.prepared.proofs.Ranges.{in_range_lem, in_range_number}
use Rattle.fields.proofs.class_of.Goals as goal
use Rattle.fields.proofs.class_of.Goals.{After-value-2}
use Rattle.fields.proofs.class_of.Goals.{else-number-eq1-via-then-number-eq1+else-x-value-2, else-number-eq1-via-else-number-eq1}

-- The first test asks whether the value is in range.
within : (c : After-value-2) → let a = c.args in
    in_range (type_at (field_at a.p.now a.f).type) a.x
    ≡ leb ((a.x + (18446744073709551616 - c.value.result)) % 18446744073709551616) c.value-2.result
within c =
    let derived = c.requires.derived in
    in_range_lem _ _ _ _ _ (omega arith) (omega arith) (c.value.ensures ∙ derived.least) (c.value-2.ensures ∙ derived.spread)

pub returns-then-x-value : goal.returns-then-x-value
returns-then-x-value c =
    sym (in_range_number _ _ _ (within (goal.at.returns-then-x-value c).After-value-2 ∙ le-leb _ _ c.if-x-value.true))

pub returns-then-x-value-2 : goal.returns-then-x-value-2
unfolding classify when◌then◌else◌ ◌and◌
returns-then-x-value-2 c =
    rw (
      eq-eqb _ _ (sym c.number.ensures ∙ c.if-number-eq1.true),
      eq-eqb _ _ (c.if-x-value-2.true ∙ c.value-then-number-eq1.ensures ∙ c.requires.derived.null),
    ) refl

pub returns : goal.returns
unfolding classify when◌then◌else◌ ◌and◌
returns c =
    let out = within (goal.at.returns c).After-value-2 ∙ lt-leb _ _ c.if-x-value.false in
    elim c.else-number-eq1.branch [
      | else-number-eq1-via-then-number-eq1+else-x-value-2 w ↦
          let other = ne_eqb _ _ (λ e. w.if-x-value-2.false (e ∙ sym c.requires.derived.null ∙ sym w.value-then-number-eq1.ensures)) in
          rw (eq-eqb _ _ (sym c.number.ensures ∙ w.if-number-eq1.true), other, out) refl
      | else-number-eq1-via-else-number-eq1 w ↦
          rw (ne_eqb _ _ (λ e. w.if-number-eq1.false (c.number.ensures ∙ e)), out) refl
    ]
