-- Numbers turned, numbers in an order, and what reading a number of a message gives.
use Rattle.std.specs.Prelude.{◌≡◌, Bool, List, reverse, ℕ, ◌^◌, ◌<◌}
use Rattle.layout.specs.Octets.{in_order, lowest, number_at}

-- r has the w lowest octets of x, turned.
pub record Turned (w x r : ℕ) : Type 0 where
  pub octets : lowest w r ≡ reverse (lowest w x)
  pub small : r < 256 ^ w

-- r has the w lowest octets of x, turned if `big`.
pub record InOrder (big : Bool) (w x r : ℕ) : Type 0 where
  pub octets : lowest w r ≡ in_order big (lowest w x)
  pub small : x < 256 ^ w → r < 256 ^ w

-- r is the number of w octets at `at`, and fits them.
pub record SpeltBy (big : Bool) (w : ℕ) (s : List ℕ) (at r : ℕ) : Type 0 where
  pub value : r ≡ number_at big w s at
  pub small : r < 256 ^ w
