-- One law for each kind of element.
use mathlib.Core.Path.{sym, ◌∙◌}
use native.Mathlib.Omega.{arith}
use Rattle.places.proofs.Elements.{element_data, element_field, element_group, element_less, entry_datas, entry_fits}
use Rattle.places.proofs.Elements.{entry_row_lem, field_readable}
use Rattle.places.proofs.element_at.Goals as goal

pub overflow_add-start : goal.overflow_add-start
overflow_add-start c =
    let ok = c.requires.0 in omega (arith, entry_fits ok, ok.short)

pub field_of-requires : goal.field_of-requires
field_of-requires c =
    let ok = c.requires.0 in
    let less = element_less ok c.requires.1 c.in-Field.is in
    (ok.stands.block, less, field_readable _ _ _ _ _ _ _ _ ok.stands ok.enough (entry_fits ok) less)

pub group_at-requires : goal.group_at-requires
group_at-requires c =
    let ok = c.requires.0 in (
      ok.stands,
      record { short = ok.short; inside = entry_fits ok },
      element_less ok c.requires.1 c.in-Group.is,
      entry_row_lem ok,
    )

pub data_after-requires : goal.data_after-requires
data_after-requires c =
    let ok = c.requires.0 in (
      ok.stands,
      record { short = ok.short; inside = entry_fits ok },
      ok.few,
      element_less ok c.requires.1 c.in-Data.is,
      entry_datas ok,
    )

pub returns-in-Field : goal.returns-in-Field
returns-in-Field c =
    let ok = c.requires.0 in
    rw c.in-Field.is
    (c.field_of.ensures ∙ sym (element_field ok _ (element_less ok c.requires.1 c.in-Field.is)))

pub returns-in-Group : goal.returns-in-Group
returns-in-Group c = rw c.in-Group.is (c.group_at.ensures ∙ sym (element_group c.requires.0 _))

pub returns-in-Data : goal.returns-in-Data
returns-in-Data c = rw c.in-Data.is (c.data_after.ensures ∙ sym (element_data c.requires.0 _))
