-- Of the records of the fields some are stored, and those of the fields that are left are to come.
use Rattle.std.proofs.Common.{arith}
use Rattle.fields.proofs.Fields.{fields_each}
use Rattle.prepared.proofs.Open.{field_here}
use Rattle.prints.proofs.Going.{going_call, going_end, going_first, stored_none}
use Rattle.store.proofs.Parts.{fields_end_lem, fields_next}
use Rattle.store.proofs.Records.{room_three}
use Rattle.store.proofs.store_fields.Goals as goal

pub store_field-n-requires : goal.store_field-n-requires
store_field-n-requires c =
    let inv = c.loop.invariant in
    let here = c.loop-test.true in (
      record {
        field = field_here _ _ _ _ _ c.requires.block.0 here inv.0 inv.1 inv.2;
        fits = (fields_each _ _ _ _ here inv.3).0;
      },
      c.has_lists-listed.ensures,
      room_three _ (going_first inv.4 _ (fields_next _ _ _ _ _ _ _ _ here)),
    )

pub loop-preserved : goal.loop-preserved
loop-preserved c =
    let inv = c.loop.invariant in
    let here = c.loop-test.true in (
      omega arith,
      omega arith,
      omega arith,
      (fields_each _ _ _ _ here inv.3).1,
      going_call inv.4 _ (fields_next _ _ _ _ _ _ _ _ here) c.store_field-n.ensures,
    )

pub returns-clause-stored : goal.returns-clause-stored
returns-clause-stored c =
    going_end c.loop.invariant.4 (stored_none (fields_end_lem _ _ _ _ _ _ _ _ c.loop-test.false))
