-- What the field is without its list is seen beside the list.
use Rattle.fields.proofs.Fields.{field_beside}
use Rattle.fields.proofs.read_field.Goals as goal

pub read_plain-requires : goal.read_plain-requires
read_plain-requires c =
    c.requires

pub beside-requires : goal.beside-requires
beside-requires c =
    let field = c.requires.field in (field.table_fits, field.derived.names.list)

pub returns : goal.returns
returns c =
    field_beside _ _ _ _ _ _ _ _ c.requires.field c.read_plain.ensures _ c.beside.ensures
