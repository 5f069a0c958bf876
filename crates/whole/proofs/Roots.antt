-- The entry that a path leads to from the root block.
use mathlib.Core.Path.{◌≡◌, refl}
use mathlib.Core.List.{List, [], ◌∷◌}
use Prim.Native.Nat.{ℕ, ◌+◌, ◌%◌, ◌<◌, ◌≤◌}
use native.Mathlib.Omega.{arith}
use lib.ListN.{length}
use Rattle.std.specs.Prelude.{None, Some}
use Rattle.layout.specs.Reading.{steps_of}
use Rattle.layout.specs.Book.{Groups}
use Rattle.layout.specs.Values.{Values, measure}
use Rattle.wire.proofs.Steps.{steps}
use Rattle.places.specs.Spots.{spot_in, step_spot}
use Rattle.places.specs.declared.Spot.{Spot}
use Rattle.places.specs.Seeks.{step_at, steps_from}
use Rattle.whole.specs.Wholes.{records_in}

-- ---- without a path, and with one

pub records_counted : (path : List ℕ) (r : Values) → length path ≤ 0 → records_in path r ≡ Some (measure r)
unfolding records_in
records_counted [] r h = refl
records_counted (x ∷ path) r h = absurd (omega (arith, h))

pub records_passed : (path : List ℕ) (r : Values) → 0 < length path → records_in path r ≡ None
unfolding records_in
records_passed [] r h = absurd (omega (arith, h))
records_passed (x ∷ path) r h = refl

module _ (p m : List ℕ) (v : ℕ) (gs : Groups) (depth : ℕ) (e : Spot) where
  pub spot_here : (path : List ℕ) → length path ≤ 0 → spot_in p m v (steps_of path) gs depth e ≡ Some e
  unfolding spot_in steps_of
  spot_here [] h = refl
  spot_here (x ∷ path) h = absurd (omega (arith, h))

  pub spot_on : (path : List ℕ) → length path % 2 ≡ 0 → 0 < length path → spot_in p m v (steps_of path) gs depth e
      ≡ step_spot p m v (step_at path 0) (spot_in p m v (steps_from path 2)) gs depth (e.start + e.length)
  unfolding spot_in steps_of
  spot_on [] q h = absurd (omega (arith, h))
  spot_on (x ∷ []) q h = absurd (omega (arith, q))
  spot_on (x ∷ y ∷ path) q h = refl

pub ruleset roots = (records_counted, records_passed, spot_here, spot_on, steps)
