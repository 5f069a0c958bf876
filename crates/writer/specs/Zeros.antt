-- A room of zeros, which a message is written into.
use Rattle.std.specs.Prelude.{◌≡◌, List, ℕ, ◌≤◌, get_or, length}
use Rattle.prints.specs.Prints.{Printed, Room}

-- Zeros all over.
pub record Zeros (d : List ℕ) : Type 0 where
  pub each : (i : ℕ) → get_or d i 0 ≡ 0

-- Zeros from n on: what is written there is written over zeros.
pub record ZerosFrom (n : ℕ) (d : List ℕ) : Type 0 where
  pub each : (i : ℕ) → n ≤ i → get_or d i 0 ≡ 0

-- A room of zeros that has space for it.
pub record Ready (x : Printed) (d : List ℕ) : Type 0 where
  pub room : Room x 0 (length d)
  pub zeros : Zeros d
