-- What walking a part of a message comes to.
use Rattle.std.specs.Prelude.{List, ℕ, ◌≤◌, length, Ok, Err}
use Rattle.layout.specs.Operations.{Told}
use Rattle.layout.specs.declared.Answer.{Answer}

-- The octet after a data.
abbrev pub data_end : Answer × ℕ → ℕ
data_end (a, x) = x

-- It leads on, and not past the end.
unfoldable pub Inside : ℕ → ℕ → Told ℕ → Type 0
Inside len at (Ok x) = (at ≤ x) × (x ≤ len)
Inside len at (Err z) = Unit {0}

-- A message that is not too long, and a place in it.
pub record Lent (m : List ℕ) (at : ℕ) : Type 0 where
  pub short : length m ≤ 65535
  pub inside : at ≤ length m
