-- A message with its numbers turned: octets of it, some runs of them turned, and what then holds of every message in
-- which they stand. A walk is turned step by step, as its definition goes.
use mathlib.Core.Path.{◌∙◌, ◌≡◌, ap, subst, sym}
use mathlib.Core.Bool.{Bool, false, not, true}
use mathlib.Core.List.{List, ◌++◌}
use Prim.Native.Nat.{◌+◌, ◌≤◌, ℕ}
use native.Mathlib.Omega.{arith}
use lib.ListN.{drop, length, length-append, length-reverse, take}
use Rattle.layout.specs.Result.{Result, ◌>>=◌, done, when◌then◌else◌, must}
use Rattle.layout.specs.Octets.{in_order, number_at, number_of}
use Rattle.layout.specs.Types.{is_width}
use Rattle.layout.specs.Demands.{Runs, kept, row, turned}
use Rattle.layout.proofs.Lengths.{span_long}
use Rattle.layout.proofs.Results.{bind_done, done_inj, inv_bind, inv_must}
use Rattle.layout.proofs.Stands.{Stands, all_stands, order_turned, split_to}
use Rattle.layout.specs.declared.Reason.{Reason}

module _ (m : List ℕ) where
  -- Octets for those of m from `at` to `to`, and what holds of every message of m's length in which they stand.
  pub record Turned (at to : ℕ) (P : List ℕ → Type 0) : Type 0 where
    pub octets : List ℕ
    pub runs : Runs m at octets to
    pub ends : to ≡ at + length octets
    pub fits : to ≤ length m
    pub holds : (m' : List ℕ) → length m' ≡ length m → Stands m' at octets to → P m'

module _ {m : List ℕ} where
  -- What follows.
  pub so : {at to : ℕ} {P Q : List ℕ → Type 0} → Turned m at to P
      → ((m' : List ℕ) → length m' ≡ length m → P m' → Q m')
      → Turned m at to Q
  so a f =
      record {
        octets = a.octets;
        runs = a.runs;
        ends = a.ends;
        fits = a.fits;
        holds = λ m' e s. f m' e (a.holds m' e s);
      }

  pub both : {at mid to : ℕ} {P Q : List ℕ → Type 0} → Turned m at mid P → Turned m mid to Q
      → Turned m at to (λ m'. P m' × Q m')
  both {at} {mid} {to} a b =
      record {
        octets = a.octets ++ b.octets;
        runs = row a.runs b.runs;
        ends = omega (arith, a.ends, b.ends, length-append a.octets b.octets);
        fits = b.fits;
        holds = λ m' e s.
            let o = split_to a.octets b.octets mid a.ends s in
            (a.holds m' e o.0, b.holds m' e o.1);
      }

  -- ---- n octets, as they are or turned

  run : {at n to : ℕ} {s : List ℕ} → Runs m at s (at + n) → length s ≡ n → at + n ≡ to → to ≤ length m
      → Turned m at to (λ m'. take n (drop at m') ≡ s)
  run {at} {n} {to} {s} r long e h =
      record {
        octets = s;
        runs = subst (Runs m at s) e r;
        ends = omega (arith, long);
        fits = h;
        holds = λ m' _ o. ap (λ (k : ℕ). take k (drop at m')) (sym long) ∙ o.whole;
      }

  pub keep : (at n : ℕ) {to : ℕ} → at + n ≡ to → to ≤ length m
      → Turned m at to (λ m'. take n (drop at m') ≡ take n (drop at m))
  keep at n e h = run (kept at n) (span_long m at n (omega arith)) e h

  -- A number of m's order, turned, is the same number of the other.
  pub turn : (big : Bool) (at w : ℕ) → is_width w ≡ true → {to : ℕ} → at + w ≡ to → to ≤ length m
      → Turned m at to (λ m'. number_at (not big) w m' at ≡ number_at big w m at)
  turn big at w listed e h =
      let s = take w (drop at m) in
      so (run (turned at w listed) (length-reverse s ∙ span_long m at w (omega arith)) e h) λ m' _ q.
      ap number_of (ap (in_order (not big)) q ∙ order_turned big s)

  -- What is turned from the first octet to the last is such a message itself.
  pub whole : {P : List ℕ → Type 0} (a : Turned m 0 (length m) P) → P a.octets
  whole a =
      let s = a.octets in
      let long : length s ≡ length m = omega (arith, a.ends) in
      a.holds s long (subst (Stands s 0 s) long (all_stands s))

-- ---- a walk

module _ (m : List ℕ) where
  -- Whatever x comes to, which reads m from `at` up to the `end` of it, y comes to of the turned message, and P holds
  -- of it there, if H does.
  abbrev pub TurnsIf : {A : Type 0} → (List ℕ → Type 0) → ℕ → (A → ℕ) → (A → List ℕ → Type 0) → Result A
      → (List ℕ → Result A) → Type 0
  TurnsIf {A} H at end P x y =
      at ≤ length m → (a : A) → x ≡ done a → Turned m at (end a) (λ m'. H m' → (y m' ≡ done a) × P a m')

  abbrev pub Turns : {A : Type 0} → ℕ → (A → ℕ) → (A → List ℕ → Type 0) → Result A → (List ℕ → Result A) → Type 0
  Turns at end P x y = TurnsIf (λ m'. Unit {0}) at end P x y

-- What is done at once reads nothing; a' m' is what the other walk is done with.
pub turns_done : {m : List ℕ} {A : Type 0} {H : List ℕ → Type 0} {at : ℕ} (end : A → ℕ) (P : A → List ℕ → Type 0)
    (a : A) {a' : List ℕ → A} → end a ≡ at
    → ((m' : List ℕ) → H m' → (a' m' ≡ a) × P a m')
    → TurnsIf m H at end P (done a) (λ m'. done (a' m'))
turns_done {m} {A} {H} {at} end P a {a'} e f h b q =
    subst (λ (c : A). Turned m at (end c) (λ m'. H m' → (done (a' m') ≡ done c) × P c m')) (done_inj q)
    (so (keep at 0 (omega arith) (omega arith)) λ m' _ _ i. (ap done (f m' i).0, (f m' i).1))

module _ {m : List ℕ} {A : Type 0} {H : List ℕ → Type 0} {at : ℕ} {end : A → ℕ} {P : A → List ℕ → Type 0} where
  -- Whatever else holds.
  pub turns_on : {x : Result A} {y : List ℕ → Result A} → Turns m at end P x y → TurnsIf m H at end P x y
  turns_on t h a e = so (t h a e) λ m' _ o _. o tt

  pub turns_then : {B : Type 0} {endB : B → ℕ} {Q : B → List ℕ → Type 0} {x : Result B} {y : List ℕ → Result B}
      {k : B → Result A} {k' : List ℕ → B → Result A} → Turns m at endB Q x y
      → ((b : B) → x ≡ done b → TurnsIf m (λ m'. H m' × Q b m') (endB b) end P (k b) (λ m'. k' m' b))
      → TurnsIf m H at end P (x >>= k) (λ m'. y m' >>= k' m')
  turns_then {x = x} {k = k} t u h a e =
      let p = inv_bind x k a e in
      let first = t h p.value p.first in
      so (both first (u p.value p.first first.fits a p.next)) λ m' _ o i.
      let w = o.0 tt in
      let r = o.1 (i, w.1) in
      (rw (w.0, bind_done) r.0, r.1)

  -- After octets that are turned already.
  pub turns_past : {mid : ℕ} {Q : List ℕ → Type 0} {x : Result A} {y : List ℕ → Result A} → Turned m at mid Q
      → TurnsIf m (λ m'. H m' × Q m') mid end P x y
      → TurnsIf m H at end P x y
  turns_past t u h a e = so (both t (u t.fits a e)) λ m' _ o i. o.1 (i, o.0)

  -- A test of the message's length.
  pub turns_test : (t : ℕ → Bool) (n : Reason) (p : ℕ) {x : Result A} {y : List ℕ → Result A}
      → (t (length m) ≡ true → TurnsIf m H at end P x y)
      → TurnsIf m H at end P (must (t (length m)) n p >>= λ _. x) (λ m'. must (t (length m')) n p >>= λ _. y m')
  unfolding must ◌>>=◌
  turns_test t n p u h a e =
      let q = inv_bind _ _ _ e in
      let good = inv_must _ _ _ _ q.first in
      so (u good h a q.next) λ m' l o i. rw (l, good) (o i)

  pub turns_if : (t : Bool) {x x₂ : Result A} {y y₂ : List ℕ → Result A} → TurnsIf m H at end P x y
      → TurnsIf m H at end P x₂ y₂
      → TurnsIf m H at end P (when t then x else x₂) (λ m'. when t then y m' else y₂ m')
  unfolding when◌then◌else◌
  turns_if true u v = u
  turns_if false u v = v
