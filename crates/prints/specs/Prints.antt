-- What a pass stores: the numbers of its parts, one part after the other.
use Rattle.std.specs.Prelude.{◌≡◌, List, [], ◌++◌, ℕ, ◌+◌, ◌≤◌, length}
use Rattle.std.proofs.lemmas.List.Edits.{sets}
use Rattle.layout.specs.Result.{Result, done, refused}

-- Where the pass stands after what was read and the numbers of that, or nothing where it was refused.
pub data Printed : Type 0 where
  got : ℕ → List ℕ → Printed
  not : Printed

unfoldable pub printed : {A : Type 0} → (A → ℕ) → (A → List ℕ) → Result A → Printed
printed end numbers (done a) = got (end a) (numbers a)
printed end numbers (refused n p) = not

unfoldable pub prepend : List ℕ → Printed → Printed
prepend e (got a xs) = got a (e ++ xs)
prepend e not = not

unfoldable pub and_then : Printed → (ℕ → Printed) → Printed
and_then (got a xs) f = prepend xs (f a)
and_then not f = not

unfoldable pub end_of : Printed → ℕ
end_of (got a xs) = a
end_of not = 0

unfoldable pub numbers_of : Printed → List ℕ
numbers_of (got a xs) = xs
numbers_of not = []

abbrev pub Accepted : Printed → Type 0
Accepted x = x ≡ got (end_of x) (numbers_of x)

-- It was accepted, and from n on there is room for its numbers among k.
pub record Room (x : Printed) (n k : ℕ) : Type 0 where
  pub whole : Accepted x
  pub fits : n + length (numbers_of x) ≤ k

-- Its numbers were stored from n on in the room d, which is now e; the pass stands at `at`, and the room is taken up to
-- k.
pub record Stored (x : Printed) (n : ℕ) (d : List ℕ) (at k : ℕ) (e : List ℕ) : Type 0 where
  pub place : at ≡ end_of x
  pub taken : k ≡ n + length (numbers_of x)
  pub room : e ≡ sets d n (numbers_of x)
