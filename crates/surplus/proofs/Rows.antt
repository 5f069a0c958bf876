-- Things passed in a row: what is left of them is passed as all of them are.
use mathlib.Core.Path.{◌≡◌, ap, refl}
use mathlib.Core.List.{List}
use Prim.Native.Nat.{◌+◌, ◌-◌, ◌<◌, ◌≤◌, suc, ℕ}
use native.Mathlib.Omega.{arith}
use lib.ListN.{length}
use Rattle.layout.specs.Result.{Result, ◌>>=◌, done}
use Rattle.layout.specs.Message.{in_row}
use Rattle.layout.proofs.Results.{bind_assoc}
use Rattle.layout.proofs.Told.{refused_on}
use Rattle.wire.proofs.Steps.{steps}

-- Of n things from `at` on, each passed by f, k are passed, and the others start at x.
pub record Skipping (m : List ℕ) (f : ℕ → Result ℕ) (n at k x : ℕ) : Type 0 where
  pub after : at ≤ x
  pub inside : x ≤ length m
  pub whole : in_row n f at ≡ in_row (n - k) f x

pub row_end : (n : ℕ) (f : ℕ → Result ℕ) (x : ℕ) → n ≤ 0 → in_row n f x ≡ done x
unfolding in_row
row_end n f x h =
    let none : n ≡ 0 = omega arith in
    rw none refl

pub row_next : (n k : ℕ) (f : ℕ → Result ℕ) (x : ℕ) → k < n → in_row (n - k) f x ≡ (f x >>= in_row (n - (k + 1)) f)
unfolding in_row
row_next n k f x h =
    let some : n - k ≡ suc (n - (k + 1)) = omega arith in
    ap (λ (j : ℕ). in_row j f x) some

pub ruleset rows = (row_end, row_next, bind_assoc, refused_on, steps)
