-- The groups and the surplus ones were read, so the walk past them ends where the data start.
use mathlib.Core.Path.{ap, sym, ◌∙◌}
use Rattle.places.specs.Elements.{data_read}
use Rattle.places.proofs.Elements.{DatasFrom, datas_from, done_ok, ends_inside, row_done}
use Rattle.places.proofs.data_after.Goals as goal
use Rattle.places.proofs.data_after.Goals.{After-unwrap-row}

-- Where the data start.
from : (c : After-unwrap-row) → let s = c.args in let m = s.m.now in
    DatasFrom m.book.now s.depth s.a m.octets.now m.version s.surplus s.start c.requires.4 c.unwrap-row.result.next
from c =
    datas_from _ _ _ _ _ _ _ c.requires.4 _
    (sym c.unwrap-row.ensures ∙ rw (c.number.ensures, c.number-2.ensures) at c.pass_row.ensures.value)

pub unwrap-row-requires : goal.unwrap-row-requires
unwrap-row-requires c =
    let s = c.args in
    rw (c.pass_row.ensures.value, c.number.ensures, c.number-2.ensures)
    (done_ok _ (row_done s.m.now.book.now s.depth s.a _ _ _ _ c.requires.4))

pub data_at-requires : goal.data_at-requires
data_at-requires c =
    let pre = c.requires in
    let block = pre.0.block in
    rw (c.number-3.ensures, c.number-4.ensures, c.is_big-big.ensures) (
      block.datas_fit,
      block.short,
      block.few_datas,
      pre.3,
      record { short = pre.1.short; inside = ends_inside _ _ _ _ (rw c.unwrap-row.ensures at c.pass_row.ensures.bounded) },
      (from (goal.at.data_at-requires c).After-unwrap-row).reads,
    )

pub returns : goal.returns
returns c =
    (rw (c.number-3.ensures, c.number-4.ensures, c.is_big-big.ensures) at c.data_at.ensures)
    ∙ ap (data_read _) (sym (from (goal.at.returns c).After-unwrap-row).same)
