-- What tactics need of the definitions' words: what follows what was done or refused, what a test says, what is told.
use mathlib.Core.Path.{◌≡◌, refl}
use mathlib.Core.Bool.{Bool, false, true}
use Prim.Native.Nat.{ℕ}
use Rattle.std.proofs.lemmas.Bool.Decides.{nat_tests}
use Rattle.std.specs.Prelude.{Err, Ok}
use Rattle.layout.specs.Operations.{refusal, told}
use Rattle.layout.specs.Result.{Result, ◌>>=◌, ◌and◌, done, must, refused, when◌then◌else◌}
use Rattle.layout.specs.declared.Reason.{Reason}
use Rattle.layout.proofs.Results.{bind_done}

pub bind_refused : {A B : Type 0} (r : Reason) (p : ℕ) (k : A → Result B) → (refused r p >>= k) ≡ refused r p
unfolding ◌>>=◌
bind_refused r p k = refl

pub must_true : (r : Reason) (p : ℕ) → must true r p ≡ done tt
unfolding must
must_true r p = refl

pub must_false : (r : Reason) (p : ℕ) → must false r p ≡ refused r p
unfolding must
must_false r p = refl

pub told_done : {A B : Type 0} (f : A → B) (a : A) → told f (done a) ≡ Ok (f a)
unfolding told
told_done f a = refl

pub told_refused : {A B : Type 0} (f : A → B) (r : Reason) (p : ℕ) → told f (refused r p) ≡ Err (refusal r p)
unfolding told
told_refused f r p = refl

pub and_true : (b : Bool) → (true and b) ≡ b
unfolding ◌and◌
and_true b = refl

pub and_false : (b : Bool) → (false and b) ≡ false
unfolding ◌and◌
and_false b = refl

pub when_true : {A : Type 0} (a b : A) → (when true then a else b) ≡ a
unfolding when◌then◌else◌
when_true a b = refl

pub when_false : {A : Type 0} (a b : A) → (when false then a else b) ≡ b
unfolding when◌then◌else◌
when_false a b = refl

pub ruleset steps = (bind_done, bind_refused, must_true, must_false, told_done, told_refused, and_true, and_false, when_true, when_false, nat_tests)
