-- The contract of preparing a book: the number of numbers, which are stored from the room's start; or 40 with the
-- number that there must be room for, and nothing is altered.
use Rattle.std.specs.Prelude.{◌≡◌, ℕ, List, length, nat_le}
use Rattle.layout.specs.Result.{Result, done, must, ◌>>=◌}
use Rattle.layout.specs.BookRules.{book_of}
use Rattle.layout.specs.Operations.{Told, counted, room_after}
use Rattle.layout.specs.Book.{Book}
use Rattle.prepared.specs.Numbers.{prepared_of}
use Rattle.layout.specs.declared.Reason.TheVariants.{RoomTooSmall}

-- The octets of a book that is accepted as this tree.
pub record IsBook (s : List ℕ) : Type 0 where
  pub tree : Book
  pub is : book_of s ≡ done tree

unfoldable pub preparing : List ℕ → ℕ → Result (List ℕ)
preparing book n = do
  b ← book_of book
  let p = prepared_of b
  _ ← must (nat_le (length p) n) RoomTooSmall (length p)
  done p

-- Into a room that is `before` at the call and `after` at the return.
pub record Prepares (book before : List ℕ) (r : Told ℕ) (after : List ℕ) : Type 0 where
  pub answer : r ≡ counted (preparing book (length before) >>= λ p. done (length p))
  pub room : after ≡ room_after (preparing book (length before)) before
