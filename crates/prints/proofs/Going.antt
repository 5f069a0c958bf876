-- A room that is filled part by part: one law for each way that a pass goes on.
use mathlib.Core.Path.{◌≡◌, refl, sym, ap, ◌∙◌}
use mathlib.Core.List.{List, [], ◌++◌}
use Prim.Native.Nat.{ℕ, ◌+◌}
use native.Mathlib.Omega.{arith}
use lib.ListN.{length, length-append}
use lib.Seq.{sets, length-sets}
use Rattle.layout.specs.Result.{Result, done, refused}
use Rattle.octets.proofs.Joined.{sets_append}
use Rattle.prints.specs.Prints.{Printed, got, not, printed, prepend, and_then, end_of, numbers_of}
use Rattle.prints.specs.Prints.{Accepted, Room, Stored}

-- ---- what was accepted, taken apart

-- What was accepted was done.
pub record Done {A : Type 0} (r : Result A) : Type 0 where
  pub value : A
  pub is : r ≡ done value

pub was_done : {A : Type 0} (e : A → ℕ) (p : A → List ℕ) (r : Result A) → Accepted (printed e p r) → Done r
unfolding printed end_of numbers_of
was_done e p (done a) h = record { value = a; is = refl }
was_done e p (refused c q) h = absurd (cc h)

pub then_first : (x : Printed) (f : ℕ → Printed) → Accepted (and_then x f) → Accepted x
unfolding and_then end_of numbers_of
then_first (got a xs) f h = refl
then_first not f h = h

rest_accepted : (e : List ℕ) (x : Printed) → Accepted (prepend e x) → Accepted x
unfolding prepend end_of numbers_of
rest_accepted e (got a xs) h = refl
rest_accepted e not h = h

prepend_is : (e : List ℕ) (x : Printed) → Accepted x → prepend e x ≡ got (end_of x) (e ++ numbers_of x)
unfolding prepend end_of numbers_of
prepend_is e x h = rw h refl

then_is : (x : Printed) (f : ℕ → Printed) → Accepted x → and_then x f ≡ prepend (numbers_of x) (f (end_of x))
unfolding and_then end_of numbers_of
then_is x f h = rw h refl

-- ---- on the way

-- Of the numbers of x some were stored from n₀ on in the room d₀, which is now d and taken up to n; those of y are to
-- come.
pub record Going (x y : Printed) (n₀ : ℕ) (d₀ : List ℕ) (n : ℕ) (d : List ℕ) : Type 0 where
  pub room : Room y n (length d)
  pub long : length d ≡ length d₀
  pub ends : end_of x ≡ end_of y
  pub taken : n₀ + length (numbers_of x) ≡ n + length (numbers_of y)
  pub laid : sets d₀ n₀ (numbers_of x) ≡ sets d n (numbers_of y)

pub going_none : {x : Printed} {n : ℕ} {d : List ℕ} → Room x n (length d) → Going x x n d n d
going_none r = record { room = r; long = refl; ends = refl; taken = refl; laid = refl }

module _ {x y : Printed} {n₀ : ℕ} {d₀ : List ℕ} {n : ℕ} {d : List ℕ} (g : Going x y n₀ d₀ n d) where
  -- e was stored.
  pub going_put : (e : List ℕ) {z : Printed} {d' : List ℕ} → y ≡ prepend e z → d' ≡ sets d n e
      → Going x z n₀ d₀ (n + length e) d'
  unfolding end_of numbers_of
  going_put e {z} {d'} s q =
      let here = rest_accepted e z (rw s at g.room.whole) in
      let is : y ≡ got (end_of z) (e ++ numbers_of z) = s ∙ prepend_is e z here in
      let long : length d' ≡ length d = ap length q ∙ length-sets d n e in
      let both = length-append e (numbers_of z) in
      record {
        room = record { whole = here; fits = omega (arith, rw is at g.room.fits, long, both) };
        long = long ∙ g.long;
        ends = g.ends ∙ ap end_of is;
        taken = omega (arith, rw is at g.taken, both);
        laid = g.laid ∙ rw (is, sets_append d n e (numbers_of z), ← q) refl;
      }

  -- A part, by a call.
  pub going_first : {z : Printed} (f : ℕ → Printed) → y ≡ and_then z f → Room z n (length d)
  going_first {z} f s =
      let here = then_first z f (rw s at g.room.whole) in
      let after = going_put (numbers_of z) (s ∙ then_is z f here) refl in
      record { whole = here; fits = omega (arith, after.room.fits, length-sets d n (numbers_of z)) }

  pub going_call : {z : Printed} (f : ℕ → Printed) {a k : ℕ} {d' : List ℕ} → y ≡ and_then z f → Stored z n d a k d'
      → Going x (f a) n₀ d₀ k d'
  going_call {z} f s t =
      rw (t.place, t.taken)
      (going_put (numbers_of z) (s ∙ then_is z f (then_first z f (rw s at g.room.whole))) t.room)

  -- What is left was stored.
  pub going_end : {a k : ℕ} {d' : List ℕ} → Stored y n d a k d' → Stored x n₀ d₀ a k d'
  going_end t =
      record {
        place = t.place ∙ sym g.ends;
        taken = omega (arith, t.taken, g.taken);
        room = t.room ∙ sym g.laid;
      }

-- Nothing is left.
pub stored_none : {y : Printed} {n : ℕ} {d : List ℕ} {a : ℕ} → y ≡ got a [] → Stored y n d a n d
unfolding end_of numbers_of
stored_none s = rw s (record { place = refl; taken = omega arith; room = refl })
