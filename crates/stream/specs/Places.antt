-- What is asked of a place.
use Rattle.std.specs.Prelude.{Ok, Err}
use Rattle.layout.specs.Operations.{Told, refusal}
use Rattle.layout.specs.declared.Answer.{Answer}
use Rattle.layout.specs.declared.Reason.TheVariants.{PlaceUnknown}

-- 30, if the message is accepted.
unfoldable pub no_place : Told (Unit {0}) → Told Answer
no_place (Ok u) = Err (refusal PlaceUnknown 0)
no_place (Err z) = Err z
