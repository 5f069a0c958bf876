-- The first of the fields that are left is one of the block's.
use Rattle.prepared.proofs.Open.{field_here}
use Rattle.judges.proofs.judge_fields.Goals as goal

pub judge_field-requires : goal.judge_field-requires
judge_field-requires c =
    let inv = c.loop.invariant in
    (field_here _ _ _ _ _ c.requires c.loop-test.true inv.few inv.field inv.table, c.has_lists-listed.ensures)
