-- A record is three numbers.
use mathlib.Core.Path.{refl}
use Rattle.store.proofs.Records.{record_stored, room_three}
use Rattle.store.proofs.store_answer.Goals as goal

pub put-requires : goal.put-requires
put-requires c =
    room_three _ c.requires

pub returns : goal.returns
returns c =
    record_stored _ _ _ c.put.ensures refl
