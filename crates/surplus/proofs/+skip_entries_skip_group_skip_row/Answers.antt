-- The entry's groups are passed, and then its data.
use native.Mathlib.Omega.{arith}
use Rattle.layout.specs.Message.{skip_entry}
use Rattle.wire.specs.Walks.{Inside}
use Rattle.layout.proofs.Told.{inv_ok}
use Rattle.wire.proofs.Steps.{steps}
use Rattle.surplus.proofs.Rows.{row_end, row_next, rows}
use Rattle.surplus.proofs.Groups.{not_read}
use Rattle.surplus.proofs.+skip_entries_skip_group_skip_row.Goals as goal
use Rattle.surplus.proofs.+skip_entries_skip_group_skip_row.Goals.{skip_entries-else-sizes-gt0, skip_entries-then-sizes-gt0+in_ok-at}

pub skip_entries-returns-in_err-at-2-clause-value : goal.skip_entries-returns-in_err-at-2-clause-value
unfolding skip_entry Inside
skip_entries-returns-in_err-at-2-clause-value t c =
    elim c.if-sizes-gt0.branch [
      | skip_entries-then-sizes-gt0+in_ok-at w ↦ grind (arith, rows)
      | skip_entries-else-sizes-gt0 w ↦ grind (arith, rows)
    ]

pub skip_entries-loop-preserved : goal.skip_entries-loop-preserved
unfolding skip_entry Inside
skip_entries-loop-preserved t c =
    let datas = inv_ok _ _ _ c.in_ok-at-2.ensures.value in
    elim c.if-sizes-gt0.branch [
      | skip_entries-then-sizes-gt0+in_ok-at w ↦
          let groups = inv_ok _ _ _ w.in_ok-at.ensures.value in
          record { after = grind arith; inside = grind arith; whole = grind (arith, row_next, steps) }
      | skip_entries-else-sizes-gt0 w ↦
          record { after = grind arith; inside = grind arith; whole = grind (arith, row_next, row_end, steps) }
    ]

pub skip_group-returns-in_err-sizes-clause-value : goal.skip_group-returns-in_err-sizes-clause-value
skip_group-returns-in_err-sizes-clause-value t c =
    let refused = not_read _ _ _ c.args.levels c.args.at _ c.in_err-sizes.ensures.value in
    grind arith
