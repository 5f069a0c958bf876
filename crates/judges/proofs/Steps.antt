-- What tactics need of the definitions' words: what follows what was done or refused, what a test says, what is told.
use mathlib.Core.Path.{◌≡◌, ap, refl}
use mathlib.Core.Bool.{Bool, false, true}
use mathlib.Core.Logic.{◌⊎◌, inl, inr}
use Prim.Native.Nat.{ℕ}
use Rattle.std.proofs.lemmas.Bool.Decides.{nat_tests}
use Rattle.std.specs.Prelude.{Err, Ok}
use Rattle.layout.specs.Operations.{Told, refusal, told}
use Rattle.layout.specs.Result.{Result, ◌>>=◌, ◌and◌, ◌or◌, done, must, refused, when◌then◌else◌}
use Rattle.layout.specs.declared.Reason.{Reason}
use Rattle.layout.specs.declared.Refusal.{Refusal}
use Rattle.layout.proofs.Results.{bind_done}

pub bind_refused : {A B : Type 0} (r : Reason) (p : ℕ) (k : A → Result B) → (refused r p >>= k) ≡ refused r p
unfolding ◌>>=◌
bind_refused r p k = refl

pub must_true : (r : Reason) (p : ℕ) → must true r p ≡ done tt
unfolding must
must_true r p = refl

pub must_false : (r : Reason) (p : ℕ) → must false r p ≡ refused r p
unfolding must
must_false r p = refl

pub told_done : {A B : Type 0} (f : A → B) (a : A) → told f (done a) ≡ Ok (f a)
unfolding told
told_done f a = refl

pub told_refused : {A B : Type 0} (f : A → B) (r : Reason) (p : ℕ) → told f (refused r p) ≡ Err (refusal r p)
unfolding told
told_refused f r p = refl

pub and_tells : (a b : Bool) → ((a ≡ true) × ((a and b) ≡ b)) ⊎ ((a ≡ false) × ((a and b) ≡ false))
unfolding ◌and◌
and_tells true b = inl (refl, refl)
and_tells false b = inr (refl, refl)

pub or_tells : (a b : Bool) → ((a ≡ true) × ((a or b) ≡ true)) ⊎ ((a ≡ false) × ((a or b) ≡ b))
unfolding ◌or◌
or_tells true b = inl (refl, refl)
or_tells false b = inr (refl, refl)

pub when_tells : {A : Type 0} (t : Bool) (a b : A)
    → ((t ≡ true) × ((when t then a else b) ≡ a)) ⊎ ((t ≡ false) × ((when t then a else b) ≡ b))
unfolding when◌then◌else◌
when_tells true a b = inl (refl, refl)
when_tells false a b = inr (refl, refl)

pub ruleset steps = (bind_done, bind_refused, must_true, must_false, told_done, told_refused, and_tells, or_tells, when_tells, nat_tests)

-- ---- one step after the other

module _ {A B : Type 0} where
  -- What is told of a step and, if it was good, of the rest.
  unfoldable pub on_good : Told A → (A → Told B) → Told B
  on_good (Ok x) next = next x
  on_good (Err z) next = Err z

  pub on_ok : (x : A) (next : A → Told B) → on_good (Ok x) next ≡ next x
  unfolding on_good
  on_ok x next = refl

  pub on_err : (z : Refusal) (next : A → Told B) → on_good (Err z) next ≡ Err z
  unfolding on_good
  on_err z next = refl

-- f is all of a step that what is told of the rest depends on.
pub step_told : {A B C D : Type 0} (f : A → C) (g : B → D) (r : Result A) (k : A → Result B) (next : C → Told D)
    → ((a : A) → r ≡ done a → told g (k a) ≡ next (f a)) → told g (r >>= k) ≡ on_good (told f r) next
unfolding told ◌>>=◌ on_good
step_told f g (done a) k next h = h a refl
step_told f g (refused r p) k next h = refl

pub must_told : {B D : Type 0} (g : B → D) (t : Bool) (r : Reason) (p : ℕ) (k : Unit {0} → Result B)
    → told g (must t r p >>= k) ≡ (when t then told g (k tt) else Err (refusal r p))
unfolding told ◌>>=◌ must when◌then◌else◌
must_told g true r p k = refl
must_told g false r p k = refl

-- What the rest was judged to be only tells its end.
pub ends_told : {A B C : Type 0} (f : B → C) (g : A → C) (r : Result A) (k : A → B) → ((a : A) → f (k a) ≡ g a)
    → told f (r >>= λ a. done (k a)) ≡ told g r
unfolding told ◌>>=◌
ends_told f g (done a) k e = ap Ok (e a)
ends_told f g (refused r p) k e = refl

pub ruleset goes_on = (on_ok, on_err, when_tells, nat_tests)
