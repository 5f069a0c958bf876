-- The contract of each public operation: what it answers and what it leaves in the buffers that it was lent. Each is an
-- equation for the answer and for every buffer that may be stored to, so it has one outcome.
use Rattle.std.specs.Prelude.{◌≡◌, List, ◌++◌, ℕ, length, drop, Ok, Err}
use Rattle.layout.specs.Result.{Result, done, refused, ◌>>=◌}
use Rattle.layout.specs.BookRules.{book_of}
use Rattle.layout.specs.Reading.{check_of, list_of, place_by}
use Rattle.layout.specs.Writing.{write_of}
use Rattle.layout.specs.declared.Answer.{Answer}
use Rattle.layout.specs.declared.Element.{Element}
use Rattle.layout.specs.declared.Reason.{Reason}
use Rattle.layout.specs.declared.Refusal.{Refusal}

-- ---- each answer of the code, by cases: "A refusal gives number and place, nothing else."

abbrev pub refusal : Reason → ℕ → Refusal
refusal r p = record { reason = r; place = p }

-- What a function answers that can refuse.
abbrev pub Told : Type 0 → Type 0
Told A = Rattle.std.specs.Prelude.Result A Refusal

-- `f` gives what is told of what was done.
unfoldable pub told : {A B : Type 0} → (A → B) → Result A → Told B
told f (done a) = Ok (f a)
told f (refused r p) = Err (refusal r p)

abbrev pub checked : {A : Type 0} → Result A → Told (Unit {0})
checked = told (λ _. tt)

abbrev pub found : Result Answer → Told Answer
found = told (λ a. a)

abbrev pub counted : Result ℕ → Told ℕ
counted = told (λ n. n)

-- "Listing leaves the room past its last record unaltered", "Room past the message is unaltered", and a refused call
-- alters nothing: what stands in the room afterwards.
unfoldable pub room_after : Result (List ℕ) → List ℕ → List ℕ
room_after (done l) room = l ++ drop (length l) room
room_after (refused r p) room = room

-- ---- the operations

abbrev pub ChecksBook : List ℕ → Told (Unit {0}) → Type 0
ChecksBook book r = r ≡ checked (book_of book)

abbrev pub Checks : List ℕ → List ℕ → Told (Unit {0}) → Type 0
Checks book m r = r ≡ checked (check_of book m)

-- The steps are numbers.
abbrev pub AnswersPlace : List ℕ → List ℕ → List ℕ → Element → Told Answer → Type 0
AnswersPlace book m steps x r = r ≡ found (place_by book m steps x)

-- A listing into a room that is `before` at the call and `after` at the return: the number of records. `list` gives the
-- number and the records, by the size of the room.
pub record ListsAs (list : ℕ → Result (ℕ × List ℕ)) (before : List ℕ) (r : Told ℕ) (after : List ℕ) : Type 0 where
  pub answer : r ≡ counted (list (length before) >>= λ l. done l.0)
  pub room : after ≡ room_after (list (length before) >>= λ l. done l.1) before

abbrev pub Lists : List ℕ → List ℕ → List ℕ → Told ℕ → List ℕ → Type 0
Lists book m before r after = ListsAs (list_of book m) before r after

-- A message written: the number of octets. `write` gives the octets, by the size of the room.
pub record WritesAs (write : ℕ → Result (List ℕ)) (before : List ℕ) (r : Told ℕ) (after : List ℕ) : Type 0 where
  pub answer : r ≡ counted (write (length before) >>= λ m. done (length m))
  pub room : after ≡ room_after (write (length before)) before

-- For the template `id` from a listing and a pool.
abbrev pub Writes : List ℕ → ℕ → List ℕ → List ℕ → List ℕ → Told ℕ → List ℕ → Type 0
Writes book id l pool before r after = WritesAs (write_of book id l pool) before r after
