-- The first lies from `low` up to `high`.
use Rattle.std.proofs.Common.{◌-◌, false, true, ◌<◌, ◌≤◌}
use Rattle.bisect.proofs.first_past.Given as goal

abbrev pub invariant-loop-low : goal.invariant-loop-low
invariant-loop-low g l =
    (l.low ≤ l.high) × (l.high ≤ l.n)
    × (0 < l.low → goal.F-post g l.is_before (l.low - 1) true)
    × (l.high < l.n → goal.F-post g l.is_before l.high false)

abbrev pub decreases-loop-low : goal.decreases-loop-low
decreases-loop-low g l = l.high - l.low
