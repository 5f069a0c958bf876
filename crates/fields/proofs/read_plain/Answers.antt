-- The field's numbers and the tests on them are the definition's case.
use Rattle.std.proofs.Common.{◌≡◌, ◌≤◌, sym, ◌∙◌, rules}
use Rattle.number_types.specs.Value.{coded}
use Rattle.number_types.proofs.Types.{is_big_in_lem, type_in_lem}
use Rattle.prepared.specs.Positions.{field_at, is_big}
use Rattle.fields.proofs.Fields.{array_inside, field_absent, field_array, field_number, number_inside}
use Rattle.fields.proofs.read_plain.Goals as goal
use Rattle.fields.proofs.read_plain.Goals.{After-number-then-len-le1, Else-m-number, Then-len-le1}

-- After the first test the field is present, and by the second it is one number.
present : (c : Else-m-number) → (field_at c.args.m.now.book.now c.args.f).since ≤ c.args.m.now.version
present c =
    rw c.number.ensures at c.if-m-number.false

single : (c : Then-len-le1) → (field_at c.args.m.now.book.now c.args.f).length ≤ 1
single c =
    rw c.number-len.ensures at c.if-len-le1.true

-- The code is that of the field's type and the book's order.
coded_is : (c : After-number-then-len-le1) → let p = c.args.m.now.book.now in
    c.number-then-len-le1.result ≡ coded (is_big p) (field_at c.args.m.now.book.now c.args.f).type
coded_is c =
    c.number-then-len-le1.ensures ∙ c.requires.field.derived.code

pub returns-then-m-number : goal.returns-then-m-number
returns-then-m-number c =
    sym (field_absent _ _ _ _ _ (rw c.number.ensures at c.if-m-number.true))

pub overflow_add-start : goal.overflow_add-start
overflow_add-start c =
    search (rules, c.requires.fits.inside (present (goal.at.overflow_add-start c).Else-m-number))

pub value_at-requires : goal.value_at-requires
value_at-requires c =
    let fits = c.requires.fits in
    rw (coded_is (goal.at.value_at-requires c).After-number-then-len-le1, type_in_lem (is_big _), c.number-2.ensures)
    (number_inside _ _ _ _ (present (goal.at.value_at-requires c).Else-m-number) fits (single (goal.at.value_at-requires c).Then-len-le1))

pub returns-then-len-le1 : goal.returns-then-len-le1
returns-then-len-le1 c =
    c.class_of.ensures ∙ rw (
      c.value_at.ensures,
      coded_is (goal.at.returns-then-len-le1 c).After-number-then-len-le1,
      type_in_lem (is_big _),
      is_big_in_lem (is_big _),
      c.number-2.ensures,
    )
    (sym (field_number _ _ _ _ (field_at c.args.m.now.book.now c.args.f)
    (present (goal.at.returns-then-len-le1 c).Else-m-number) (single (goal.at.returns-then-len-le1 c).Then-len-le1)))

pub read_array-requires : goal.read_array-requires
read_array-requires c =
    let pre = c.requires in (
      pre.field.fits,
      c.number-len.ensures,
      rw (c.number-2.ensures, c.number-len.ensures)
          (array_inside _ _ _ _ (present (goal.at.read_array-requires c).Else-m-number) pre.fits),
    )

pub returns : goal.returns
returns c =
    rw c.number-2.ensures at c.read_array.ensures
    ∙ sym (field_array _ _ _ _ _ (present (goal.at.returns c).Else-m-number) (rw c.number-len.ensures at c.if-len-le1.false))
