-- An index with the key lies from `low` up to `high`.
use Rattle.std.proofs.Common.{ℕ, ◌-◌, ◌<◌, ◌≤◌}
use Rattle.bisect.proofs.find.Given as goal

abbrev pub invariant-loop-low : goal.invariant-loop-low
invariant-loop-low g l =
    (l.low ≤ l.high) × (l.high ≤ l.n)
    × (0 < l.low → (y : ℕ) × (y < l.x) × goal.F-post g l.key (l.low - 1) y)
    × (l.high < l.n → (y : ℕ) × (l.x < y) × goal.F-post g l.key l.high y)

abbrev pub decreases-loop-low : goal.decreases-loop-low
decreases-loop-low g l = l.high - l.low
