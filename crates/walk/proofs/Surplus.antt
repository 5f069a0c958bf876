-- What a newer version has more comes after what the book knows, so that it is passed by itself.
use mathlib.Core.Path.{◌≡◌}
use Prim.Native.Nat.{ℕ}
use native.Mathlib.Omega.{arith}
use Rattle.layout.specs.Result.{Result, done, ◌>>=◌}

-- `skip` passes the surplus.
module _ {A : Type 0} (skip : ℕ → Result ℕ) where
  -- What is read, and then the surplus.
  abbrev pub and_skip : A × ℕ → Result (A × ℕ)
  and_skip r = skip r.1 >>= λ x. done (r.0, x)

  -- What stands before it is put to what is read.
  abbrev puts : (A → A) → A × ℕ → Result (A × ℕ)
  puts put r = done (put r.0, r.1)

  -- A row is its first and the others: `all` are those that are known and the surplus.
  pub skip_first : {F : Type 0} (first : Result F) (end : F → ℕ) (put : F → A → A) (all known : ℕ → Result (A × ℕ))
      → ((at : ℕ) → all at ≡ (known at >>= and_skip))
      → (first >>= λ f. all (end f) >>= puts (put f)) ≡ (first >>= (λ f. known (end f) >>= puts (put f)) >>= and_skip)
  unfolding ◌>>=◌
  skip_first first end put all known h = grind arith
