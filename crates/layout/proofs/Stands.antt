-- Where a list stands in a longer one, and the numbers that stand there. It carries every position, in messages and in
-- listings alike.
use mathlib.Core.Path.{◌∙◌, ◌≡◌, ap, refl, sym}
use mathlib.Core.Bool.{Bool, false, not, true}
use mathlib.Core.List.{List, [], ◌++◌, ◌∷◌, reverse, reverse-cons, reverse-reverse}
use Prim.Native.Nat.{◌%◌, ◌*◌, ◌+◌, ◌/◌, ◌<◌, ◌^◌, ◌≤◌, suc, zero, ℕ}
use native.Mathlib.Nat.{le_refl, mod-eq_of_lt, one-le-pow, pow-suc, pow-zero}
use native.Mathlib.Omega.{arith}
use lib.Arith.{mod-mul}
use lib.Dec.{lit<}
use lib.ListN.{drop, get_or, length, length-append, length-drop, length-reverse, take}
use lib.Seq.{drop_at, drop-cons, drop-drop, get_or-drop, length-take-le, take-add, take_at, take-length}
use Rattle.layout.specs.Result.{Each}
use Rattle.layout.specs.Octets.{AllOctets, in_order, lowest, null16, number16, number_at, number_of, octets_of}
use Rattle.layout.specs.Writing.{numbers16}

-- xs stands in m from `at` to `to`.
pub record Stands (m : List ℕ) (at : ℕ) (xs : List ℕ) (to : ℕ) : Type 0 where
  pub whole : take (length xs) (drop at m) ≡ xs
  pub ends : to ≡ at + length xs
  pub fits : to ≤ length m

-- Of two that stand in a row each stands, `mid` being the place between.
pub split_to : {m : List ℕ} {at to : ℕ} (xs ys : List ℕ) (mid : ℕ) → mid ≡ at + length xs → Stands m at (xs ++ ys) to
    → Stands m at xs mid × Stands m mid ys to
split_to {m} {at} {to} xs ys mid e s =
    let n = length xs in
    let len : length (xs ++ ys) ≡ n + length ys = length-append xs ys in
    let room : n ≤ length (drop at m) = rw length-drop (omega (arith, s.ends, s.fits, len)) in
    let l : length (take n (drop at m)) ≡ n = length-take-le n (drop at m) room in
    let front = take n (drop at m) in
    let back = take (length ys) (drop n (drop at m)) in
    let both : front ++ back ≡ xs ++ ys =
    sym (take-add n (length ys) (drop at m)) ∙ ap (λ (k : ℕ). take k (drop at m)) (sym len) ∙ s.whole in
    let after : drop mid m ≡ drop n (drop at m) = ap (λ (k : ℕ). drop k m) e ∙ sym (drop-drop n at m) in (
      record {
        whole = sym (take_at front back n l) ∙ ap (take n) both ∙ take_at xs ys n refl;
        ends = e;
        fits = omega (arith, s.ends, s.fits, len);
      },
      record {
        whole = ap (take (length ys)) after ∙ sym (drop_at front back n l) ∙ ap (drop n) both ∙ drop_at xs ys n refl;
        ends = omega (arith, s.ends, len);
        fits = s.fits;
      },
    )

pub join : {m : List ℕ} {at mid to : ℕ} (xs ys : List ℕ) → Stands m at xs mid → Stands m mid ys to
    → Stands m at (xs ++ ys) to
join {m} {at} {mid} {to} xs ys a b =
    let len : length (xs ++ ys) ≡ length xs + length ys = length-append xs ys in
    let q : drop (length xs) (drop at m) ≡ drop mid m =
    drop-drop (length xs) at m ∙ ap (λ (k : ℕ). drop k m) (sym a.ends) in
    record {
      whole = rw (len, take-add (length xs) (length ys) (drop at m), q, a.whole, b.whole) refl;
      ends = omega (arith, len, a.ends, b.ends);
      fits = b.fits;
    }

pub nothing_stands : (m : List ℕ) (at : ℕ) → at ≤ length m → Stands m at [] at
nothing_stands m at h = record { whole = refl; ends = omega arith; fits = h }

pub all_stands : (m : List ℕ) → Stands m 0 m (length m)
all_stands m = record { whole = take-length m; ends = omega arith; fits = le_refl (length m) }

-- What stands in all of m is m.
pub stands_all : {m xs : List ℕ} → Stands m 0 xs (length m) → xs ≡ m
stands_all {m} {xs} s =
    let q : length xs ≡ length m = omega (arith, s.ends) in
    sym s.whole ∙ ap (λ (k : ℕ). take k m) q ∙ take-length m

pub slice_stands : (m : List ℕ) (at n : ℕ) → at + n ≤ length m → Stands m at (take n (drop at m)) (at + n)
slice_stands m at n h =
    let l : length (take n (drop at m)) ≡ n = length-take-le n (drop at m) (rw length-drop (omega arith)) in
    record { whole = ap (λ (k : ℕ). take k (drop at m)) l; ends = omega (arith, l); fits = h }

-- Three numbers, as a record has them.
pub three_stand : (l : List ℕ) (at : ℕ) → at + 3 ≤ length l
    → Stands l at (get_or l at 0 ∷ get_or l (at + 1) 0 ∷ get_or l (at + 2) 0 ∷ []) (at + 3)
three_stand l at h =
    record {
      whole = rw (
        next at (at + 1) (omega arith) (omega arith),
        next (at + 1) (at + 2) (omega arith) (omega arith),
        next
            (at + 2) (at + 3) (omega arith) (omega arith),
      ) refl;
      ends = refl;
      fits = h;
    }
  where
    next : (k j : ℕ) → suc k ≡ j → k < length l → drop k l ≡ get_or l k 0 ∷ drop j l
    next k j e g = drop-cons l k 0 g ∙ ap (λ (n : ℕ). get_or l k 0 ∷ drop n l) e

-- ---- the order: what holds of octets with the least significant first holds of them in either order

order_length : (big : Bool) (s : List ℕ) → length (in_order big s) ≡ length s
unfolding in_order
order_length false s = refl
order_length true s = length-reverse s

-- Turned and turned back.
pub order_back : (big : Bool) (s : List ℕ) → in_order big (in_order big s) ≡ s
unfolding in_order
order_back false s = refl
order_back true s = reverse-reverse s

-- What is turned in one order is as it was in the other.
pub order_turned : (big : Bool) (s : List ℕ) → in_order (not big) (reverse s) ≡ in_order big s
unfolding in_order
order_turned false s = reverse-reverse s
order_turned true s = refl

-- What bounds the numbers of two lists bounds those of one after the other.
pub below_then : {n : ℕ} (s r : List ℕ) → ((i : ℕ) → get_or s i 0 < n) → ((i : ℕ) → get_or r i 0 < n)
    → (i : ℕ) → get_or (s ++ r) i 0 < n
below_then [] r h k i = k i
below_then (b ∷ s) r h k zero = h zero
below_then (b ∷ s) r h k (suc i) = below_then s r (λ j. h (suc j)) k i

octets_reversed : (s : List ℕ) → AllOctets s → AllOctets (reverse s)
octets_reversed [] h i = h i
octets_reversed (b ∷ s) h i =
    rw (reverse-cons b s) (below_then (reverse s) (b ∷ []) (octets_reversed s λ j. h (suc j)) last i)
  where
    last : AllOctets (b ∷ [])
    last zero = h zero
    last (suc j) = omega arith

order_octets : (big : Bool) (s : List ℕ) → AllOctets s → AllOctets (in_order big s)
unfolding in_order
order_octets false s h = h
order_octets true s h = octets_reversed s h

-- ---- numbers

pub lowest_length : (w x : ℕ) → length (lowest w x) ≡ w
unfolding lowest
lowest_length zero x = refl
lowest_length (suc w) x = ap suc (lowest_length w (x / 256))

pub number_lowest : (w x : ℕ) → number_of (lowest w x) ≡ x % 256 ^ w
unfolding number_of lowest
number_lowest zero x = rw pow-zero (omega arith)
number_lowest (suc w) x =
    rw (pow-suc, mod-mul x (one-le-pow w 256 (lit< tt)) (lit< tt), number_lowest w (x / 256)) (omega arith)

lowest_number : (s : List ℕ) → AllOctets s → lowest (length s) (number_of s) ≡ s
unfolding number_of lowest
lowest_number [] h = refl
lowest_number (b ∷ s) h =
    let low : b < 256 = h 0 in
    let l : (b + 256 * number_of s) % 256 ≡ b = omega arith in
    let r : (b + 256 * number_of s) / 256 ≡ number_of s = omega arith in
    rw (l, r, lowest_number s (λ i. h (suc i))) refl

pub length_octets : (big : Bool) (w x : ℕ) → length (octets_of big w x) ≡ w
length_octets big w x = order_length big (lowest w x) ∙ lowest_length w x

-- The number that x is written as.
pub number_stands : {m : List ℕ} {at to : ℕ} (big : Bool) (w x : ℕ) → Stands m at (octets_of big w x) to
    → number_at big w m at ≡ x % 256 ^ w
number_stands {m} {at} {to} big w x s =
    ap (λ (n : ℕ). number_of (in_order big (take n (drop at m)))) (sym (length_octets big w x))
    ∙ ap (λ (r : List ℕ). number_of (in_order big r)) s.whole ∙ ap number_of (order_back big (lowest w x))
    ∙ number_lowest w x

octets_number : (big : Bool) (s : List ℕ) → AllOctets s → octets_of big (length s) (number_of (in_order big s)) ≡ s
octets_number big s h =
    ap (λ (n : ℕ). octets_of big n (number_of (in_order big s))) (sym (order_length big s))
    ∙ ap (in_order big) (lowest_number (in_order big s) (order_octets big s h)) ∙ order_back big s

octets_taken : (n : ℕ) (s : List ℕ) → AllOctets s → AllOctets (take n s)
octets_taken zero s h i = omega arith
octets_taken (suc n) [] h i = omega arith
octets_taken (suc n) (b ∷ s) h zero = h zero
octets_taken (suc n) (b ∷ s) h (suc i) = octets_taken n s (λ j. h (suc j)) i

-- Whatever has the octets of the number that stands there stands there.
pub octets_stand : (big : Bool) (m : List ℕ) → AllOctets m → (w at x : ℕ) → at + w ≤ length m
    → octets_of big w x ≡ octets_of big w (number_at big w m at) → Stands m at (octets_of big w x) (at + w)
octets_stand big m octets w at x h e =
    let l : length (take w (drop at m)) ≡ w = length-take-le w (drop at m) (rw length-drop (omega arith)) in
    let there : octets_of big w (number_at big w m at) ≡ take w (drop at m) =
    ap (λ (k : ℕ). octets_of big k (number_at big w m at)) (sym l)
    ∙ octets_number big (take w (drop at m)) (octets_taken w (drop at m) (λ i. rw get_or-drop (octets (at + i)))) in
    rw (e, there) (slice_stands m at w h)

-- ---- 16-bit numbers in a row, as headers and dimensions have them

-- The numbers xs stand in m from `at` on.
unfoldable pub AreAt : Bool → List ℕ → ℕ → List ℕ → Type 0
AreAt big m at [] = Unit {0}
AreAt big m at (x ∷ xs) = (number16 big m at ≡ x) × AreAt big m (at + 2) xs

abbrev pub AllWhole : List ℕ → Type 0
AllWhole xs = Each (λ x. x < null16) xs

pub length_numbers : (big : Bool) (xs : List ℕ) → length (numbers16 big xs) ≡ 2 * length xs
unfolding numbers16
length_numbers big [] = refl
length_numbers big (x ∷ xs) = length-append (octets_of big 2 x) (numbers16 big xs)
    ∙ omega (arith, length_octets big 2 x, length_numbers big xs)

-- Written numbers are read.
pub numbers_are : {m : List ℕ} {at to : ℕ} (big : Bool) (xs : List ℕ) → AllWhole xs
    → Stands m at (numbers16 big xs) to → AreAt big m at xs
unfolding numbers16 AreAt Each
numbers_are big [] h s = tt
numbers_are {m} {at} big (x ∷ xs) h s =
    let o = split_to (octets_of big 2 x) (numbers16 big xs) (at + 2) (omega (arith, length_octets big 2 x)) s in
    (number_stands big 2 x o.0 ∙ mod-eq_of_lt (omega (arith, h.0)), numbers_are {at = at + 2} big xs h.1 o.1)

-- Read numbers are written.
pub numbers_stand : (big : Bool) (m : List ℕ) → AllOctets m → (at to : ℕ) (xs : List ℕ) → to ≡ at + 2 * length xs
    → to ≤ length m
    → AreAt big m at xs → Stands m at (numbers16 big xs) to
unfolding numbers16 AreAt
numbers_stand big m octets at to [] e h a =
    let q : at ≡ to = omega arith in
    rw q (nothing_stands m to h)
numbers_stand big m octets at to (x ∷ xs) e h a =
    join _ _ (octets_stand big m octets 2 at x (omega arith) (ap (octets_of big 2) (sym a.0)))
    (numbers_stand big m octets (at + 2) to xs (omega arith) h a.1)
