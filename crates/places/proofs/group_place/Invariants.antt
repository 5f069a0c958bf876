-- From the group that is reached the groups that are left lead to the same place.
use mathlib.Core.Path.{◌≡◌}
use Prim.Native.Nat.{◌-◌}
use Rattle.prepared.specs.Positions.{IsRow, groups_from}
use Rattle.places.specs.Seeks.{row_after}
use Rattle.places.proofs.group_place.Given as goal

abbrev pub invariant-loop-i : goal.invariant-loop-i
invariant-loop-i l =
    record {
      row : IsRow l.p l.depth (l.n - l.i) l.group;
      place : row_after l.p l.k (groups_from l.p l.a) ≡ row_after l.p (l.k - l.i) l.group;
    }
