-- What is told of a definition's answer says what that answer is: so for every function that can refuse.
use Rattle.std.proofs.Common.{◌≡◌, refl}
use Rattle.std.specs.Prelude.{Ok, Err}
use Rattle.layout.specs.Result.{Result, ◌>>=◌, done, refused}
use Rattle.layout.specs.Operations.{Told, refusal, told}
use Rattle.layout.specs.declared.Refusal.{Refusal}

-- b was told of what was done: f gives it.
pub record Gives {A B : Type 0} (f : A → B) (r : Result A) (b : B) : Type 0 where
  pub value : A
  pub is : r ≡ done value
  pub gives : f value ≡ b

-- What was told was done.
pub inv_ok : {A B : Type 0} (f : A → B) (r : Result A) (b : B) → Ok b ≡ told f r → Gives f r b
unfolding told
inv_ok f (done a) b e = record { value = a; is = refl; gives = cc }
inv_ok f (refused r p) b e = cc

-- What was refused is refused.
pub inv_err : {A B : Type 0} (f : A → B) (r : Result A) (z : Refusal) → ◌≡◌ {A = Told B} (Err z) (told f r)
    → r ≡ refused z.reason z.place
unfolding told
inv_err f (done a) z e = cc
inv_err f (refused r p) z e =
    let q : z ≡ refusal r p = cc in
    rw q refl

-- What was done is told, and what was refused.
pub tells : {A B : Type 0} (f : A → B) {r : Result A} {a : A} → r ≡ done a → told f r ≡ Ok (f a)
unfolding told
tells f e = rw e refl

pub refuses : {A B : Type 0} (f : A → B) {r : Result A} (z : Refusal) → r ≡ refused z.reason z.place → told f r ≡ Err z
unfolding told
refuses f z e = rw e refl

-- What is refused first is refused at last.
pub refused_on : {A B C D : Type 0} (f : A → C) (r : Result A) (k : A → Result B) (g : B → D) (z : Refusal)
    → ◌≡◌ {A = Told C} (Err z) (told f r) → told g (r >>= k) ≡ Err z
unfolding ◌>>=◌
refused_on f r k g z e =
    let is = inv_err f r z e in
    refuses g z (rw is refl)
