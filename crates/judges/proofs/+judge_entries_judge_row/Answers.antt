-- The octets of all blocks are a number of the machine's.
use native.Mathlib.Omega.{arith}
use Rattle.judges.proofs.Judging.{blocks_fit}
use Rattle.judges.proofs.+judge_entries_judge_row.Goals as goal

pub judge_entries-overflow_mul-number : goal.judge_entries-overflow_mul-number
judge_entries-overflow_mul-number t c =
    omega (arith, blocks_fit _ _ _ _ c.requires.0.block c.number-2.ensures c.requires.1)
