-- The reply for each answer: "A refusal gives number and place, nothing else."
use Rattle.std.specs.Prelude.{◌≡◌, List, ℕ, get_or, length, Ok, Err}
use Rattle.layout.specs.Reasons.{number_of}
use Rattle.layout.specs.Result.{Result, done, ◌>>=◌}
use Rattle.layout.specs.Values.{record_of}
use Rattle.layout.specs.Operations.{Told, checked, counted, found, room_after}
use Rattle.layout.specs.declared.Answer.{Answer}
use Rattle.siphonbard.specs.declared.CheckedReply.{CheckedReply}
use Rattle.siphonbard.specs.declared.CountedReply.{CountedReply}
use Rattle.siphonbard.specs.declared.FoundReply.{FoundReply}

unfoldable pub say_checked : Told (Unit {0}) → CheckedReply
say_checked (Ok u) = record { number = 0; place = 0 }
say_checked (Err z) = record { number = number_of z.reason; place = z.place }

unfoldable pub say_counted : Told ℕ → CountedReply
say_counted (Ok n) = record { number = 0; place = 0; count = n }
say_counted (Err z) = record { number = number_of z.reason; place = z.place; count = 0 }

-- The three numbers of the answer's record.
unfoldable pub say_found : Told Answer → FoundReply
say_found (Ok a) =
    record {
      number = 0;
      place = 0;
      first = get_or (record_of a) 0 0;
      second = get_or (record_of a) 1 0;
      third = get_or (record_of a) 2 0;
    }
say_found (Err z) =
    record { number = number_of z.reason; place = z.place; first = 0; second = 0; third = 0 }

-- ---- for what the layout's definitions come to

abbrev pub reply_checked : {A : Type 0} → Result A → CheckedReply
reply_checked r = say_checked (checked r)

abbrev pub reply_counted : Result ℕ → CountedReply
reply_counted r = say_counted (counted r)

abbrev pub reply_found : Result Answer → FoundReply
reply_found r = say_found (found r)

-- A listing into a room that is `before` at the call and `after` at the return: `list` gives the number of records and
-- the records, by the size of the room.
pub record RepliesList (list : ℕ → Result (ℕ × List ℕ)) (before : List ℕ) (r : CountedReply)
    (after : List ℕ) : Type 0 where
  pub reply : r ≡ reply_counted (list (length before) >>= λ l. done l.0)
  pub room : after ≡ room_after (list (length before) >>= λ l. done l.1) before

-- What is written into a room, by its size: a message, or a prepared book.
pub record RepliesWrite (write : ℕ → Result (List ℕ)) (before : List ℕ) (r : CountedReply)
    (after : List ℕ) : Type 0 where
  pub reply : r ≡ reply_counted (write (length before) >>= λ l. done (length l))
  pub room : after ≡ room_after (write (length before)) before
