-- Those seen, and the present ones of what is left, are as many as are present in all.
use mathlib.Core.Path.{◌≡◌}
use Prim.Native.Nat.{◌+◌, ◌≤◌}
use Rattle.layout.specs.Book.{group_sinces, present}
use Rattle.prepared.specs.Positions.{IsRow, groups_at, inner_at}
use Rattle.counts.proofs.older_groups.Given as goal

abbrev pub invariant-loop-left : goal.invariant-loop-left
invariant-loop-left l =
    IsRow l.p l.depth l.left l.g × (l.seen + l.left ≤ 16)
    × (present l.v (group_sinces (inner_at l.p l.depth l.a)) ≡ l.seen + present l.v (group_sinces (groups_at l.p l.depth l.left l.g)))
