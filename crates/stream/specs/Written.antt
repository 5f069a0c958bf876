-- Writing by a template that was found.
use Rattle.std.specs.Prelude.{List, ℕ, leb, length}
use Rattle.layout.specs.Result.{Result, done, must, ◌and◌, ◌>>=◌}
use Rattle.layout.specs.Book.{Book, Template}
use Rattle.layout.specs.Writing.{judge_listing, message_octets}
use Rattle.layout.specs.declared.Reason.TheVariants.{MessageTooLong}

-- 51 to 55: l is the listing, and `room` is how many octets there is room for.
unfoldable pub written_by : Book → Template → List ℕ → List ℕ → ℕ → Result (List ℕ)
written_by b t l pool room = do
  r ← judge_listing l pool t
  let m = message_octets b t pool r
  _ ← must (leb (length m) room and leb (length m) 65535) MessageTooLong 0
  done m
