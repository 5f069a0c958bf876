-- `read_full` ends: each turn brings at least one octet, and never more than the room has. What came is what was read.
use Rattle.std.proofs.Common.{length, take, ◌-◌, ◌≤◌}
use Rattle.std.specs.Io.KnownBytes.{Consumes}
use Rattle.input.proofs.read_full.Given as goal

abbrev pub invariant-loop-came : goal.invariant-loop-came
invariant-loop-came g l =
    (l.came ≤ length l.room)
    × Consumes (g.R.Read.remaining l.initial.input) (g.R.Read.remaining l.input) (take l.came l.room)

abbrev pub decreases-loop-came : goal.decreases-loop-came
decreases-loop-came g l = length l.room - l.came
