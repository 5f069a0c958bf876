-- What was done at last was done at each step: what follows from that is said of the steps' values.
use mathlib.Core.Path.{◌≡◌, refl}
use mathlib.Core.Bool.{Bool, true, false}
use Prim.Native.Nat.{ℕ}
use Rattle.layout.specs.Result.{Result, done, must, ◌>>=◌}
use Rattle.layout.specs.declared.Reason.{Reason}
use Rattle.layout.proofs.Results.{inv_bind}

pub step : {A B C : Type 0} (x : Result A) (k : A → Result B) (b : B) → (x >>= k) ≡ done b
    → ((a : A) → x ≡ done a → k a ≡ done b → C) → C
step x k b e go = let f = inv_bind x k b e in go f.value f.first f.next

pub passed : {B C : Type 0} (t : Bool) (n : Reason) (p : ℕ) (k : Unit {0} → Result B) (b : B) → (must t n p >>= k) ≡ done b
    → (t ≡ true → k tt ≡ done b → C) → C
unfolding must ◌>>=◌
passed true n p k b e go = go refl e
passed false n p k b e go = absurd (cc e)
