-- In a body blocks lie one after the other, whatever groups they are in.
use Rattle.std.proofs.Common.{◌≡◌, ℕ, zero, suc, ◌+◌, ◌/◌, ◌≤◌, List, [], length, refl, arith}
use Rattle.prepared.specs.Numbers.{groups_size}
use Rattle.prepare.specs.Positions.{IsRow, many_groups, group_size, groups_at, groups_end, groups_from, inner_at}
use Rattle.prepare.specs.Positions.{size_at}
use Rattle.prepare.specs.Templates.{IsBody}
use Rattle.prepare.proofs.Blocks.{block_size_lem}

-- From word w to the end e lie blocks of n numbers.
pub data Run (s : List ℕ) (e : ℕ) : ℕ → ℕ → Type 0 where
  ends : {w n : ℕ} → w ≡ e → n ≡ 0 → Run s e w n
  goes : {w n k : ℕ} → groups_from s (w + 2) ≤ length s / 2 → Run s e (groups_from s (w + 2)) k
      → n ≡ size_at s (w + 2) + k → Run s e w n

run_row : (s : List ℕ) (e depth n w k m : ℕ) → IsRow s depth n w → Run s e (groups_end s depth n w) k
    → m ≡ groups_size (groups_at [] s depth n w) + k → Run s e w m
unfolding IsRow groups_end groups_at groups_size
run_row s e zero zero w k m row run q = let j : m ≡ k = omega arith in rw j run
run_row s e (suc depth) zero w k m row run q = let j : m ≡ k = omega arith in rw j run
run_row s e zero (suc n) w k m row run q = absurd row
run_row s e (suc depth) (suc n) w k m row run q =
    goes {n = m} row.0
    (run_row s e depth _ _ _ _ row.1 (run_row s e (suc depth) n _ k _ row.2 run refl) refl)
    (omega (arith, block_size_lem [] s (w + 2)))

-- Blocks of as many numbers as are to be seen lie from word w on.
pub record Seeing (s : List ℕ) (w seen : ℕ) : Type 0 where
  pub left : ℕ
  pub run : Run s (length s / 2) w left
  pub sum : group_size s 4 0 ≡ seen + left

pub seeing_starts : (s : List ℕ) → IsBody s → (w seen : ℕ) → w ≡ groups_from s 0 → seen ≡ size_at s 0 → Seeing s w seen
seeing_starts s body w seen ew es =
    record {
      left = groups_size (inner_at [] s 4 0);
      run = rw ew (run_row s _ 4 (many_groups s 0) (groups_from s 0) 0 _ body.block.row (ends body.end refl)
          (omega arith));
      sum = omega arith;
    }
