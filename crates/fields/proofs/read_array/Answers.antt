-- The tests on the field's numbers and on the text's length are the definition's.
use Rattle.std.proofs.Common.{◌≡◌, take, drop, sym, ◌∙◌}
use Rattle.layout.specs.Octets.{text_length}
use Rattle.prepared.specs.Positions.{field_at}
use Rattle.fields.proofs.Fields.{array_octets, text_empty, text_null, text_some}
use Rattle.fields.proofs.read_array.Goals as goal
use Rattle.fields.proofs.read_array.Goals.{After-text_length-n, Else-number-ne0}

-- After the first test the array is text, and its length is known.
char : (c : Else-number-ne0) → let a = c.args in (field_at a.p.now a.f).type ≡ 0
char c =
    sym c.number.ensures ∙ c.if-number-ne0.false

long : (c : After-text_length-n) → let a = c.args in
    c.text_length-n.result ≡ text_length (take (field_at a.p.now a.f).length (drop a.start a.m.now))
long c =
    rw c.requires.1 at c.text_length-n.ensures

pub returns-then-number-ne0 : goal.returns-then-number-ne0
returns-then-number-ne0 c =
    rw c.requires.1
    (sym (array_octets _ _ _ (rw c.number.ensures at c.if-number-ne0.true)))

pub returns-then-n-gt0 : goal.returns-then-n-gt0
returns-then-n-gt0 c =
    sym (text_some _ _ _ (char (goal.at.returns-then-n-gt0 c).Else-number-ne0) _ (long (goal.at.returns-then-n-gt0 c).After-text_length-n) c.if-n-gt0.true)

pub returns-then-number-eq1 : goal.returns-then-number-eq1
returns-then-number-eq1 c =
    sym (text_null _ _ _ (char (goal.at.returns-then-number-eq1 c).Else-number-ne0) _ (long (goal.at.returns-then-number-eq1 c).After-text_length-n) c.if-n-gt0.false
    (sym c.number-2.ensures ∙ c.if-number-eq1.true))

pub returns : goal.returns
returns c =
    sym (text_empty _ _ _ (char (goal.at.returns c).Else-number-ne0) _ (long (goal.at.returns c).After-text_length-n) c.if-n-gt0.false
    (rw c.number-2.ensures at c.if-number-eq1.false))
