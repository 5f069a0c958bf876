-- A slice that is taken anew from its start on holds what it held.
use mathlib.Core.Path.{◌≡◌}
use mathlib.Core.List.{List}
use Prim.Native.Nat.{ℕ, ◌-◌}
use native.Mathlib.Omega.{arith}
use lib.ListN.{length, take}
use lib.Seq.{take_all}

pub anew : (xs : List ℕ) → take (length xs - 0) xs ≡ xs
anew xs = take_all (length xs - 0) xs (omega arith)
