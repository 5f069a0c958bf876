-- The groups call themselves: a row's groups, a group's entries with their rows. The measure of a call is the levels
-- left, and within a level the order of the calls.
use Prim.Native.Nat.{◌*◌, ◌+◌, ◌-◌}
use Rattle.layout.specs.Message.{skip_entry, skip_group}
use Rattle.surplus.specs.Surplus.{dimension_of}
use Rattle.surplus.proofs.Rows.{Skipping}
use Rattle.surplus.proofs.+skip_entries_skip_group_skip_row.Given as goal

abbrev pub decreases-skip_entries : goal.decreases-skip_entries
decreases-skip_entries l = 4 * l.levels + 3

abbrev pub decreases-skip_group : goal.decreases-skip_group
decreases-skip_group l = 4 * l.levels

abbrev pub decreases-skip_row : goal.decreases-skip_row
decreases-skip_row l = 4 * l.levels + 1

abbrev pub invariant-skip_entries-loop : goal.invariant-skip_entries-loop
invariant-skip_entries-loop l =
    let m = l.sent.octets.now in
    Skipping m (skip_entry l.sent.big m (skip_group l.sent.counted l.sent.big m l.levels) (dimension_of l.sizes) l.place)
    l.sizes.entries l.start (l.sizes.entries - l.counter) l.at

abbrev pub invariant-skip_row-loop : goal.invariant-skip_row-loop
invariant-skip_row-loop l =
    let m = l.sent.octets.now in
    Skipping m (skip_group l.sent.counted l.sent.big m l.levels) l.n l.start l.counter l.at
