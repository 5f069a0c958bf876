-- What `grind` is to know at every goal: what `and` and `or` come to by their first half, what is told, and what comes of
-- an answer, if there is one.
use mathlib.Core.Path.{◌≡◌, refl}
use mathlib.Core.Bool.{Bool, false, true}
use mathlib.Core.Logic.{◌⊎◌, inl, inr}
use Rattle.std.proofs.lemmas.Bool.Decides.{nat_tests}
use Prim.Native.Nat.{ℕ}
use Rattle.std.specs.Prelude.{Err, None, Ok, Option, Some}
use Rattle.layout.specs.Result.{◌>>=◌, ◌and◌, ◌or◌, Result, done, must, refused, when◌then◌else◌}
use Rattle.layout.specs.Operations.{checked, counted, refusal, told}
use Rattle.layout.proofs.Results.{bind_done}
use Rattle.layout.specs.declared.Reason.{Reason}
use Rattle.layout.specs.declared.Reason.TheVariants.{BookSize}

pub and_tells : (a b : Bool) → ((a ≡ true) × ((a and b) ≡ b)) ⊎ ((a ≡ false) × ((a and b) ≡ false))
unfolding ◌and◌
and_tells true b = inl (refl, refl)
and_tells false b = inr (refl, refl)

pub or_tells : (a b : Bool) → ((a ≡ true) × ((a or b) ≡ true)) ⊎ ((a ≡ false) × ((a or b) ≡ b))
unfolding ◌or◌
or_tells true b = inl (refl, refl)
or_tells false b = inr (refl, refl)

pub when_tells : {A : Type 0} (t : Bool) (a b : A)
    → ((t ≡ true) × ((when t then a else b) ≡ a)) ⊎ ((t ≡ false) × ((when t then a else b) ≡ b))
unfolding when◌then◌else◌
when_tells true a b = inl (refl, refl)
when_tells false a b = inr (refl, refl)

pub told_done : {A B : Type 0} (f : A → B) (a : A) → told f (done a) ≡ Ok (f a)
unfolding told
told_done f a = refl

pub told_refused : {A B : Type 0} (f : A → B) (r : Reason) (p : ℕ) → told f (refused r p) ≡ Err (refusal r p)
unfolding told
told_refused f r p = refl

pub bind_refused : {A B : Type 0} (r : Reason) (p : ℕ) (k : A → Result B) → (refused r p >>= k) ≡ refused r p
unfolding ◌>>=◌
bind_refused r p k = refl

pub must_tells : (t : Bool) (r : Reason) (p : ℕ)
    → ((t ≡ true) × (must t r p ≡ done tt)) ⊎ ((t ≡ false) × (must t r p ≡ refused r p))
unfolding must
must_tells true r p = inl (refl, refl)
must_tells false r p = inr (refl, refl)

-- Why something was not done, and what was counted.
pub reason_in : {A : Type 0} → Result A → Reason
reason_in (done a) = BookSize
reason_in (refused r p) = r

pub place_in : {A : Type 0} → Result A → ℕ
place_in (done a) = 0
place_in (refused r p) = p

pub number_in : Result ℕ → ℕ
number_in (done n) = n
number_in (refused r p) = 0

pub checked_tells : (r : Result (Unit {0}))
    → ((checked r ≡ Ok tt) × (r ≡ done tt))
    ⊎ ((checked r ≡ Err (refusal (reason_in r) (place_in r))) × (r ≡ refused (reason_in r) (place_in r)))
unfolding told reason_in place_in
checked_tells (done a) = inl (refl, refl)
checked_tells (refused r p) = inr (refl, refl)

pub counted_tells : (r : Result ℕ)
    → ((counted r ≡ Ok (number_in r)) × (r ≡ done (number_in r)))
    ⊎ ((counted r ≡ Err (refusal (reason_in r) (place_in r))) × (r ≡ refused (reason_in r) (place_in r)))
unfolding told number_in reason_in place_in
counted_tells (done n) = inl (refl, refl)
counted_tells (refused r p) = inr (refl, refl)

-- What comes of an answer, if there is one.
infixl 20 ◌>>>◌
unfoldable pub ◌>>>◌ : {A B : Type 0} → Option A → (A → Option B) → Option B
None >>> k = None
Some a >>> k = k a

pub none_then : {A B : Type 0} (k : A → Option B) → (None >>> k) ≡ None
unfolding ◌>>>◌
none_then k = refl

pub some_then : {A B : Type 0} (a : A) (k : A → Option B) → (Some a >>> k) ≡ k a
unfolding ◌>>>◌
some_then a k = refl

pub ruleset tests = (nat_tests, and_tells, or_tells, when_tells, told_done, told_refused, none_then, some_then)

-- And what one check after the other comes to.
pub ruleset binds = (tests, checked_tells, counted_tells, bind_done, bind_refused, must_tells)
