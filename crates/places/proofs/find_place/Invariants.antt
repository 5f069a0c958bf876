-- From the block that is reached what is left of the steps finds the same place.
use mathlib.Core.Path.{◌≡◌}
use Prim.Native.Nat.{◌-◌, ◌*◌}
use Rattle.layout.specs.Reading.{steps_of}
use Rattle.prepared.specs.Positions.{BlockAt}
use Rattle.places.specs.Seeks.{steps_from}
use Rattle.places.specs.Elements.{block_for}
use Rattle.places.proofs.find_place.Given as goal

abbrev pub invariant-loop-i : goal.invariant-loop-i
invariant-loop-i l =
    record {
      stands : BlockAt l.p (4 - l.i) l.a;
      same : block_for l.p 4 l.root (steps_of l.steps) l.x ≡ block_for l.p (4 - l.i) l.a (steps_from l.steps (2 * l.i)) l.x;
    }
