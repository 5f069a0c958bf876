-- The reply and the room, one after the other.
use Rattle.std.proofs.Common.{rules}
use Rattle.layout.specs.Operations.{told, room_after}
use Rattle.layout.specs.Result.{◌>>=◌}
use Rattle.layout.specs.Writing.{write_of}
use Rattle.siphonbard.specs.Replies.{say_counted}
use Rattle.wire.proofs.Steps.{steps}
use Rattle.siphonbard.proofs.siphonbard_write.Goals as goal

pub returns : goal.returns
unfolding told room_after write_of say_counted ◌>>=◌
returns c = record { reply = search (rules, steps); room = search (rules, steps) }
