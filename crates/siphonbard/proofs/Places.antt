-- A place whose kind there is not.
use mathlib.Core.Path.{◌≡◌, refl}
use Rattle.layout.specs.Result.{Result, ◌>>=◌, done, refused}
use Rattle.layout.specs.Operations.{checked, found, told}
use Rattle.layout.specs.declared.Reason.TheVariants.{PlaceUnknown}
use Rattle.stream.specs.Places.{no_place}

-- 30, after what the check refuses.
pub no_kind : (check : Result (Unit {0})) → no_place (checked check) ≡ found (check >>= λ _. refused PlaceUnknown 0)
unfolding no_place told ◌>>=◌
no_kind (done u) = refl
no_kind (refused n q) = refl
