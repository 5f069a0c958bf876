-- What the types have in common, in the code's terms.
use mathlib.Core.Path.{◌∙◌, ◌≡◌, refl}
use mathlib.Core.Bool.{Bool, false, false≢true, true}
use mathlib.Core.Logic.{◌⊎◌, inl, inr}
use Prim.Native.Nat.{◌%◌, ◌*◌, ◌+◌, ◌-◌, ◌/◌, ◌<◌, ◌^◌, ◌≤◌, ℕ}
use native.Mathlib.Nat.{one-mul}
use native.Mathlib.Omega.{arith}
use lib.Dec.{eqb, leb, lit<}
use lib.Pow.{shl_exact}
use borrow.Author.Tests.{eq-eqb, eqb-false, eqb-true, le-leb, leb-true, lt-leb, ne_eqb}
use Rattle.layout.specs.Result.{◌and◌, when◌then◌else◌}
use Rattle.layout.specs.Types.{TypeRow, char, int, is_signed, is_width, row_of, type_at, value_of, width_of}
use Rattle.layout.proofs.Results.{each_way, or_right}
use Rattle.layout.proofs.TypeLaws.{Width, each_type, width_at}
use Rattle.number_types.specs.Value.{coded, is_big_in, kept, type_in}
use Rattle.number_types.specs.declared.NumberType.{NumberType}

-- ---- widths

pub width_eight : (w : ℕ) → is_width w ≡ true → (w ≡ 1 → ⊥) → (w ≡ 2 → ⊥) → (w ≡ 4 → ⊥) → w ≡ 8
width_eight w h a b c =
    eqb-true w 8 (or_right _ _ (or_right _ _ (or_right _ _ h (ne_eqb w 1 a)) (ne_eqb w 2 b)) (ne_eqb w 4 c))

-- What holds of 1, 2, 4 and 8 holds of every width.
pub each_width : (P : ℕ → Type 0) → P 1 → P 2 → P 4 → P 8 → (w : ℕ) → is_width w ≡ true → P w
each_width P one two four eight w h =
    is 1 one (λ a. is 2 two (λ b. is 4 four (λ c. rw (width_eight w h a b c) eight)))
  where
    is : (k : ℕ) → P k → ((w ≡ k → ⊥) → P w) → P w
    is k p other = each_way (eqb w k) (λ e. rw (eqb-true w k e) p) (λ e. other (eqb-false w k e))

-- The greatest number of w octets.
abbrev pub ones : ℕ → ℕ
ones w = (2 ^ 64 - 1) / 2 ^ (64 - 8 * w)

pub ones_fit : (w : ℕ) → is_width w ≡ true → (2 ≤ ones w) × (ones w < 2 ^ 64)
ones_fit =
    each_width (λ w. (2 ≤ ones w) × (ones w < 2 ^ 64))
    (omega arith, omega arith) (omega arith, omega arith) (omega arith, omega arith) (omega arith, omega arith)

pub width_fits : (w : ℕ) → is_width w ≡ true → (1 ≤ w) × (w ≤ 8)
width_fits =
    each_width (λ w. (1 ≤ w) × (w ≤ 8))
    (omega arith, omega arith) (omega arith, omega arith) (omega arith, omega arith) (omega arith, omega arith)

-- ---- the number of a type

pub integer_at : (t : ℕ) → 1 ≤ t → t < 9 → type_at t ≡ row_of (width_of t) (is_signed t)
unfolding type_at when◌then◌else◌ ◌and◌
integer_at t h k = rw (le-leb 1 t h, le-leb t 8 (omega arith)) refl

pub char_at : (t : ℕ) → (1 ≤ t → 9 ≤ t) → type_at t ≡ char
unfolding type_at when◌then◌else◌ ◌and◌
char_at t h = each_way (leb 1 t) (λ e. rw (e, lt-leb t 8 (h (leb-true 1 t e))) refl) (λ e. rw e refl)

pub char_kept : (t : ℕ) → (1 ≤ t → 9 ≤ t) → kept (type_at t) ≡ kept char
char_kept t h = rw (char_at t h) refl

-- From 1 to 8 the width is a power of two: one, shifted left.
pub doubled : (t : ℕ) → t < 9 → (1 * 2 ^ ((t - 1) / 2) % 2 ^ 64 ≡ width_of t) × (is_width (width_of t) ≡ true)
doubled t h = (
  shl_exact {a = 1} 1 ((t - 1) / 2) 64 (lit< tt) (omega arith) ∙ one-mul (width_of t),
  (width_at _ h).listed,
)

-- ---- the code of a type and an order

pub type_in_lem : (big : Bool) (t : ℕ) → type_in (coded big t) ≡ t
unfolding when◌then◌else◌
type_in_lem false t = omega arith
type_in_lem true t = omega arith

pub is_big_in_lem : (big : Bool) (t : ℕ) → is_big_in (coded big t) ≡ big
unfolding when◌then◌else◌
is_big_in_lem false t = ne_eqb ((2 * t + 0) % 2) 1 (λ e. omega arith)
is_big_in_lem true t = eq-eqb ((2 * t + 1) % 2) 1 (omega arith)

-- ---- values

-- What holds of every signed type holds of one that is kept as k.
of_signed : (P : TypeRow → NumberType → Type 0) → ((w : ℕ) → Width w → P (int w) (kept (int w)))
    → (t : ℕ) {k : NumberType} → k ≡ kept (type_at t) → k.signed ≡ true → P (type_at t) k
of_signed P i t e s =
    rw e
    (each_type (λ r. r.signed ≡ true → P r (kept r)) (λ s. absurd (false≢true s)) (λ w a s. i w a)
    (λ w a s. absurd (false≢true s)) t (rw e at s))

-- Of a signed type the numbers above the greatest are its negatives, from the least on, its null.
pub value_high : (t x : ℕ) {k : NumberType} → k ≡ kept (type_at t) → k.signed ≡ true → k.greatest < x
    → x < 256 ^ (type_at t).width → value_of (type_at t) x ≡ k.null + (x - k.greatest - 1)
unfolding value_of when◌then◌else◌ ◌and◌
value_high t x e s h b =
    of_signed (λ r k. k.greatest < x → x < 256 ^ r.width → value_of r x ≡ k.null + (x - k.greatest - 1))
    (λ w a h b. rw (le-leb (256 ^ w / 2) x (omega (arith, a.even, a.many))) (omega (arith, a.even, a.whole, a.many)))
    t e s h b

-- The larger number is one of 64 bits.
pub value_fits : (t x : ℕ) {k : NumberType} → k ≡ kept (type_at t) → k.signed ≡ true → k.greatest < x
    → x < 256 ^ (type_at t).width → k.null + (x - k.greatest - 1) < 2 ^ 64
value_fits t x e s h b =
    of_signed (λ r k. k.greatest < x → x < 256 ^ r.width → k.null + (x - k.greatest - 1) < 2 ^ 64)
    (λ w a h b. omega (arith, a.even, a.whole, a.many)) t e s h b

pub value_low : (t x : ℕ) {k : NumberType} → k ≡ kept (type_at t)
    → (k.signed ≡ true × x ≤ k.greatest) ⊎ (k.signed ≡ false) → value_of (type_at t) x ≡ x
unfolding value_of when◌then◌else◌ ◌and◌
value_low t x e (inl h) =
    of_signed (λ r k. x ≤ k.greatest → value_of r x ≡ x)
    (λ w a h. rw (lt-leb (256 ^ w / 2) x (omega (arith, a.even, a.many))) refl) t e h.0 h.1
value_low t x e (inr h) = simp (rw e at h)
