-- Each kind of list has a test of its own.
use mathlib.Core.Path.{◌∙◌, sym}
use native.Mathlib.Omega.{arith}
use borrow.Author.Tests.{eq-eqb, ne_eqb}
use Rattle.layout.specs.Result.{when◌then◌else◌}
use Rattle.layout.specs.Lists.{is_listed}
use Rattle.names.proofs.Masks.{by_mask}
use Rattle.names.proofs.has.Goals as goal

pub returns-then-value-eq0 : goal.returns-then-value-eq0
unfolding is_listed when◌then◌else◌
returns-then-value-eq0 c =
    rw (eq-eqb _ 0 (sym c.value.ensures ∙ c.if-value-eq0.true)) c.is_among.ensures

pub returns : goal.returns
unfolding is_listed when◌then◌else◌
returns c =
    let list = c.requires in
    rw (c.value-2.ensures, list.mask, ne_eqb _ 0 (λ e. c.if-value-eq0.false (c.value.ensures ∙ e)))
    (by_mask _ list.rises _ (omega arith))
