-- The least of the n octets from `at` on, and that none of them is NUL.
use Rattle.std.specs.Prelude.{◌≡◌, List, ℕ, zero, suc, ◌+◌, ◌<◌, min, get_or}

unfoldable pub least : List ℕ → ℕ → ℕ → ℕ
least s at zero = 255
least s at (suc n) = min (least s at n) (get_or s (at + n) 0)

abbrev pub Clear : List ℕ → ℕ → ℕ → Type 0
Clear s at n = (j : ℕ) → j < n → get_or s (at + j) 0 ≡ 0 → ⊥
