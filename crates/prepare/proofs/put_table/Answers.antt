-- A row more is stored, and the need is that of a field more.
use Rattle.std.proofs.Common.{sym, refl, ◌∙◌, add-one}
use Rattle.layout.specs.Book.{need_after}
use Rattle.layout.specs.BookRules.{parse_fields}
use Rattle.prepared.specs.Numbers.{table_of}
use Rattle.prepared.proofs.Needs.{need_last}
use Rattle.prepare.proofs.Blocks.{table_more}
use Rattle.prepare.proofs.put_table.Goals as goal

pub loop-i-init : goal.loop-i-init
unfolding need_after parse_fields table_of
loop-i-init c = (refl, refl)

pub loop-i-preserved : goal.loop-i-preserved
loop-i-preserved c =
    let i = c.loop-i.i in
    let inv = c.loop-i.invariant in (
      rw (
        c.need_after-need.ensures,
        c.field_end-end.ensures,
        c.word-t.ensures.value,
        c.word-k.ensures.value,
        c.word.ensures.value,
        c.word-in-loop-i-2.ensures.value,
        c.word-version.ensures.value,
        inv.0,
        add-one i,
      ) (sym (need_last _ _ _ i 0 c.args.from)),
      c.put_worked.ensures ∙ rw inv.1 (table_more _ _ _ _ c.args.room.now c.args.start i c.args.from _ _ _ c.word-t.ensures.value
          c.order_of-order.ensures.value (rw c.word-in-loop-i.ensures.value at c.place_of-place.ensures)),
    )
