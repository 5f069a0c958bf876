-- A number is in a type's range where it is no farther above the least than the spread: so what is worked out of a
-- field serves for its type.
use mathlib.Core.Path.{◌≡◌, refl, sym}
use mathlib.Core.Bool.{Bool, false, true}
use Prim.Native.Nat.{◌%◌, ◌+◌, ◌<◌, ◌^◌, ◌≤◌, ℕ}
use native.Mathlib.Omega.{arith}
use lib.Dec.{leb}
use borrow.Author.Tests.{le-leb, leb-false, leb-true, lt-leb}
use Rattle.layout.specs.Result.{◌and◌, ◌or◌, when◌then◌else◌}
use Rattle.layout.specs.Types.{classify, in_range, type_at}
use Rattle.layout.specs.declared.Answer.TheVariants.{Number}
use Rattle.layout.proofs.Results.{each_way}
use Rattle.layout.proofs.TypeLaws.{each_type, inside_not_null}
use Rattle.prepared.specs.Numbers.{spread}

-- d and s are how far x and the greatest, g, are from the least, l, counted upwards and around 2 ^ 64.
module _ (l g x d s : ℕ) (e : (d + l) % 2 ^ 64 ≡ x) (f : (s + l) % 2 ^ 64 ≡ g) (a : d < 2 ^ 64) (b : s < 2 ^ 64) where
  between : l ≤ g → g < 2 ^ 64 → (leb l x and leb x g) ≡ leb d s
  unfolding ◌and◌
  between h k =
      each_way (leb l x)
      (λ p. each_way (leb x g)
      (λ q. rw (p, q) (sym (le-leb d s (omega (arith, leb-true l x p, leb-true x g q, e, f)))))
      (λ q. rw (p, q) (sym (lt-leb d s (omega (arith, leb-true l x p, leb-false x g q, e, f))))))
      (λ p. rw p (sym (lt-leb d s (omega (arith, leb-false l x p, e, f)))))

  around : g < l → l < 2 ^ 64 → (leb x g or leb l x) ≡ leb d s
  unfolding ◌or◌
  around h k =
      each_way (leb x g) (λ p. rw p (sym (le-leb d s (omega (arith, leb-true x g p, e, f)))))
      (λ p. each_way (leb l x)
      (λ q. rw (p, q) (sym (le-leb d s (omega (arith, leb-false x g p, leb-true l x q, e, f)))))
      (λ q. rw (p, q) (sym (lt-leb d s (omega (arith, leb-false x g p, leb-false l x q, e, f))))))

-- So a value is in range where it is no farther than the greatest.
in_span : (t x d s : ℕ) → (d + (type_at t).least) % 2 ^ 64 ≡ x → (s + (type_at t).least) % 2 ^ 64 ≡ (type_at t).greatest
    → d < 2 ^ 64 → s < 2 ^ 64 → in_range (type_at t) x ≡ leb d s
unfolding in_range when◌then◌else◌
in_span t x d s =
    each_type
    (λ k. (d + k.least) % 2 ^ 64 ≡ x → (s + k.least) % 2 ^ 64 ≡ k.greatest → d < 2 ^ 64 → s < 2 ^ 64
    → in_range k x ≡ leb d s)
    (λ e f a b. between 32 126 x d s e f a b (omega arith) (omega arith))
    (λ w k e f a b. around _ _ x d s e f a b (omega (arith, k.even, k.whole, k.many))
    (omega (arith, k.even, k.many)))
    (λ w k e f a b. between 0 _ x d s e f a b (omega arith) (omega (arith, k.whole)))
    t

-- The greatest of a type is its spread above the least.
spread_to : (t : ℕ) → (spread (type_at t) + (type_at t).least) % 2 ^ 64 ≡ (type_at t).greatest
spread_to t =
    each_type (λ k. (spread k + k.least) % 2 ^ 64 ≡ k.greatest) refl
    (λ w a. omega (arith, a.even, a.whole, a.many)) (λ w a. omega (arith, a.whole, a.many)) t

-- x is d above the least, and `far` is the spread.
pub in_range_lem : (t x d least far : ℕ) → d < 2 ^ 64 → (d + least) % 2 ^ 64 ≡ x → least ≡ (type_at t).least
    → far ≡ spread (type_at t)
    → in_range (type_at t) x ≡ leb d far
in_range_lem t x d least far small e p q =
    rw q (in_span t x d (spread (type_at t)) (rw p at e) (spread_to t) small (omega arith))

-- What is in range is a number, null or not being asked.
pub in_range_number : (t : ℕ) (optional : Bool) (x : ℕ) → in_range (type_at t) x ≡ true
    → classify (type_at t) optional x ≡ Number x
unfolding classify when◌then◌else◌ ◌and◌
in_range_number t false x e = rw e refl
in_range_number t true x e = rw (inside_not_null t x e, e) refl
