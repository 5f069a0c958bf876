-- What is written as a type's octets is read again: number facts once over the width, and the nine types by one rule.
use mathlib.Core.Path.{◌∙◌, ◌≡◌, ap, refl, sym}
use mathlib.Core.Bool.{Bool, false, false≢true, true}
use Prim.Native.Nat.{◌%◌, ◌*◌, ◌+◌, ◌-◌, ◌/◌, ◌<◌, ◌^◌, ◌≤◌, suc, zero, ℕ}
use native.Mathlib.Nat.{mod-eq_of_lt, mul-add-mod_self_right, mul_left_comm, pow-succ'}
use native.Mathlib.Omega.{arith}
use lib.Dec.{eqb, leb}
use borrow.Author.Tests.{le-leb, leb-true, lt-leb, ne_eqb}
use Rattle.layout.specs.Result.{◌and◌, ◌or◌, when◌then◌else◌}
use Rattle.layout.specs.Octets.{in_order, lowest, octets_of}
use Rattle.layout.specs.Types.{TypeRow, char, in_range, int, is_signed, is_width, row_of, type_at, uint, value_of}
use Rattle.layout.specs.Types.{width_of}
use Rattle.layout.proofs.Results.{and_right, each_way, either, or_right}

-- A width's numbers are even in number, and 2 ^ 64 is a multiple of that.
pub record Width (w : ℕ) : Type 0 where
  pub above : ℕ
  pub whole : above * 256 ^ w + 256 ^ w ≡ 2 ^ 64
  pub even : 256 ^ w / 2 + 256 ^ w / 2 ≡ 256 ^ w
  pub many : 256 ≤ 256 ^ w
  pub listed : is_width w ≡ true
  pub few : w ≤ 8

width : (w above : ℕ) → above * 256 ^ w + 256 ^ w ≡ 2 ^ 64 → 256 ^ w / 2 + 256 ^ w / 2 ≡ 256 ^ w → 256 ≤ 256 ^ w
    → is_width w ≡ true → w ≤ 8 → Width w
width w a whole even many listed few =
    record { above = a; whole = whole; even = even; many = many; listed = listed; few = few }

doubled : (k : ℕ) → k < 4 → Width (2 ^ k)
unfolding ◌or◌
doubled zero h = width 1 (256 ^ 7 - 1) refl refl (omega arith) refl (omega arith)
doubled (suc zero) h = width 2 (256 ^ 6 - 1) refl refl (omega arith) refl (omega arith)
doubled (suc (suc zero)) h = width 4 (256 ^ 4 - 1) refl refl (omega arith) refl (omega arith)
doubled (suc (suc (suc zero))) h = width 8 0 refl refl (omega arith) refl (omega arith)
doubled (suc (suc (suc (suc k)))) h = absurd (omega arith)

pub width_at : (t : ℕ) → t < 9 → Width (width_of t)
width_at t h = doubled ((t - 1) / 2) (omega arith)

-- What holds of char and, at every width, of the signed and the unsigned type holds of every type.
pub each_type : (P : TypeRow → Type 0) → P char → ((w : ℕ) → Width w → P (int w)) → ((w : ℕ) → Width w → P (uint w))
    → (t : ℕ) → P (type_at t)
unfolding type_at when◌then◌else◌
each_type P c i u t = go (leb 1 t and leb t 8) refl (is_signed t)
  where
    go : (b : Bool) → (leb 1 t and leb t 8) ≡ b → (s : Bool) → P (when b then row_of (width_of t) s else char)
    go true e true = i _ (width_at t (omega (arith, leb-true t 8 (and_right _ _ e))))
    go true e false = u _ (width_at t (omega (arith, leb-true t 8 (and_right _ _ e))))
    go false e s = c

pub width_listed : (t : ℕ) → is_width (type_at t).width ≡ true
unfolding ◌or◌
width_listed t = each_type (λ k. is_width k.width ≡ true) refl (λ w a. a.listed) (λ w a. a.listed) t

pub width_few : (t : ℕ) → (type_at t).width ≤ 8
width_few t = each_type (λ k. k.width ≤ 8) (omega arith) (λ w a. a.few) (λ w a. a.few) t

-- ---- written and read again

plain_back : (k : TypeRow) (x : ℕ) → k.signed ≡ false → x < 256 ^ k.width → value_of k (x % 256 ^ k.width) ≡ x
unfolding value_of when◌then◌else◌ ◌and◌
plain_back k x s h = rw s (mod-eq_of_lt h)

module _ (w : ℕ) (a : Width w) (x : ℕ) where
  int_low : x < 256 ^ w / 2 → value_of (int w) (x % 256 ^ w) ≡ x
  unfolding value_of when◌then◌else◌ ◌and◌
  int_low h =
      let m : x % 256 ^ w ≡ x = mod-eq_of_lt (omega (arith, a.even)) in
      rw (m, lt-leb (256 ^ w / 2) x h) refl

  int_high : 2 ^ 64 - 256 ^ w / 2 ≤ x → x < 2 ^ 64 → value_of (int w) (x % 256 ^ w) ≡ x
  unfolding value_of when◌then◌else◌ ◌and◌
  int_high h k =
      let y = x - a.above * 256 ^ w in
      let sum : a.above * 256 ^ w + y ≡ x = omega (arith, a.whole, a.even) in
      let m : x % 256 ^ w ≡ y =
      ap (λ (z : ℕ). z % 256 ^ w) (sym sum) ∙ mul-add-mod_self_right a.above (256 ^ w) y
      ∙ mod-eq_of_lt (omega (arith, a.whole)) in
      rw (m, le-leb (256 ^ w / 2) y (omega (arith, a.whole, a.even))) (omega (arith, a.whole, sum))

  int_back : in_range (int w) x ≡ true → x < 2 ^ 64 → value_of (int w) (x % 256 ^ w) ≡ x
  unfolding in_range when◌then◌else◌
  int_back r h =
      each_way (leb x (256 ^ w / 2 - 1))
      (λ e. int_low (omega (arith, leb-true x (256 ^ w / 2 - 1) e, a.even, a.many)))
      (λ e. int_high (omega (arith, leb-true (2 ^ 64 - 256 ^ w / 2 + 1) x (or_right _ _ r e))) h)

  uint_back : in_range (uint w) x ≡ true → value_of (uint w) (x % 256 ^ w) ≡ x
  unfolding in_range when◌then◌else◌
  uint_back r = plain_back (uint w) x refl (omega (arith, leb-true x (256 ^ w - 2) (and_right _ _ r), a.many))

char_back : (x : ℕ) → in_range char x ≡ true → value_of char (x % 256) ≡ x
unfolding in_range when◌then◌else◌
char_back x r = plain_back char x refl (omega (arith, leb-true x 126 (and_right _ _ r)))

-- A number in a type's range is read again.
pub number_back : (t x : ℕ) → x < 2 ^ 64 → in_range (type_at t) x ≡ true
    → value_of (type_at t) (x % 256 ^ (type_at t).width) ≡ x
number_back t x b r =
    each_type (λ k. in_range k x ≡ true → value_of k (x % 256 ^ k.width) ≡ x)
    (char_back x) (λ w a e. int_back w a x e b) (λ w a. uint_back w a x) t r

-- So is a type's null.
pub null_back : (t : ℕ) → value_of (type_at t) ((type_at t).null % 256 ^ (type_at t).width) ≡ (type_at t).null
null_back t =
    each_type (λ k. value_of k (k.null % 256 ^ k.width) ≡ k.null)
    (plain_back char 0 refl (omega arith))
    (λ w a. int_high w a (2 ^ 64 - 256 ^ w / 2) (omega arith) (omega (arith, a.even, a.whole, a.many)))
    (λ w a. plain_back (uint w) (256 ^ w - 1) refl (omega (arith, a.many))) t

-- A type's null is not in its range.
null_outside : (t : ℕ) → in_range (type_at t) (type_at t).null ≡ false
unfolding in_range when◌then◌else◌ ◌and◌ ◌or◌
null_outside t =
    each_type (λ k. in_range k k.null ≡ false) refl
    (λ w a. let n = 2 ^ 64 - 256 ^ w / 2 in
    rw (lt-leb n (256 ^ w / 2 - 1) (omega (arith, a.even, a.whole, a.many)), lt-leb (n + 1) n (omega arith)) refl)
    (λ w a. let n = 256 ^ w in
    rw (le-leb 0 (n - 1) (omega arith), lt-leb (n - 1) (n - 2) (omega (arith, a.many))) refl) t

pub inside_not_null : (t x : ℕ) → in_range (type_at t) x ≡ true → eqb x (type_at t).null ≡ false
inside_not_null t x r =
    ne_eqb x (type_at t).null (λ e. false≢true (sym (null_outside t) ∙ ap (in_range (type_at t)) (sym e) ∙ r))

-- ---- read and written again

pub lowest_add : (w k x : ℕ) → lowest w (x + k * 256 ^ w) ≡ lowest w x
unfolding lowest
lowest_add zero k x = refl
lowest_add (suc w) k x =
    let l : (x + 256 * (k * 256 ^ w)) % 256 ≡ x % 256 = omega arith in
    let r : (x + 256 * (k * 256 ^ w)) / 256 ≡ x / 256 + k * 256 ^ w = omega arith in
    rw (pow-succ', mul_left_comm k 256 (256 ^ w), l, r, lowest_add w k (x / 256)) refl

plain_octets : (k : TypeRow) (x : ℕ) → k.signed ≡ false → lowest k.width (value_of k x) ≡ lowest k.width x
unfolding value_of when◌then◌else◌ ◌and◌
plain_octets k x s = rw s refl

int_octets : (w : ℕ) → Width w → (x : ℕ) → lowest w (value_of (int w) x) ≡ lowest w x
unfolding value_of ◌and◌
int_octets w a x =
    let up : 2 ^ 64 - 256 ^ w ≡ a.above * 256 ^ w = omega (arith, a.whole) in
    either (λ (y : ℕ). lowest w y ≡ lowest w x) (leb (256 ^ w / 2) x) (x + (2 ^ 64 - 256 ^ w)) x
    (rw up (lowest_add w a.above x)) refl

-- A value has the octets of the number that it is the value of.
pub octets_value : (big : Bool) (t x : ℕ)
    → octets_of big (type_at t).width (value_of (type_at t) x) ≡ octets_of big (type_at t).width x
octets_value big t x =
    ap (in_order big) (each_type (λ k. lowest k.width (value_of k x) ≡ lowest k.width x)
    (plain_octets char x refl) (λ w a. int_octets w a x) (λ w a. plain_octets (uint w) x refl) t)
