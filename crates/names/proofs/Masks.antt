-- A number has only bits of a list if it shares each of its bits with the list's mask: bit after bit, the mask has a 1
-- where the list has the bit's number.
use mathlib.Core.Path.{◌≡◌, ◌∙◌, refl}
use mathlib.Core.Bool.{Bool, false, true}
use mathlib.Core.List.{List, [], ◌∷◌}
use Prim.Native.Nat.{◌%◌, ◌*◌, ◌+◌, ◌-◌, ◌/◌, ◌<◌, ◌^◌, min, suc, zero, ℕ}
use native.Mathlib.Nat.{min-le_left, pow-suc, sub-zero}
use native.Mathlib.Omega.{arith}
use lib.Bits.{and_step, bit_and}
use lib.Dec.{eqb, leb, ltb}
use borrow.Author.Tests.{eq-eqb, eqb-false, eqb-true, le-leb, lt-leb, lt-ltb, ltb-false, ltb-true, ne_eqb}
use Rattle.layout.specs.Result.{◌and◌, ◌or◌, when◌then◌else◌}
use Rattle.layout.specs.Lists.{is_one_of, only_bits}
use Rattle.layout.specs.BookRules.{climbing}
use Rattle.layout.proofs.Results.{and_right, each_way}
use Rattle.prepared.specs.Numbers.{mask_of}
use Rattle.names.proofs.Rising.{climbs_from, none_at}

-- ---- the lowest bit of two numbers

bit : Bool → ℕ
bit true = 1
bit false = 0

bit_small : (b : Bool) → bit b < 2
unfolding bit
bit_small true = omega arith
bit_small false = omega arith

digits_same : (x y a c : ℕ) → y ≡ a * 2 + c → c < 2 → eqb y x ≡ (eqb c (x % 2) and eqb a (x / 2))
unfolding ◌and◌
digits_same x y a c is h = go (eqb c (x % 2)) refl (eqb a (x / 2)) refl
  where
    go : (s : Bool) → eqb c (x % 2) ≡ s → (t : Bool) → eqb a (x / 2) ≡ t → eqb y x ≡ (s and t)
    go true e true q = eq-eqb y x (omega (arith, eqb-true c (x % 2) e, eqb-true a (x / 2) q))
    go true e false q = ne_eqb y x (λ z. eqb-false a (x / 2) q (omega (arith, z)))
    go false e t q = ne_eqb y x (λ z. eqb-false c (x % 2) e (omega (arith, z)))

bit_kept : (r : ℕ) (b : Bool) → r < 2 → eqb (min r (bit b)) r ≡ (eqb r 0 or b)
unfolding bit ◌or◌
bit_kept zero true h = refl
bit_kept zero false h = refl
bit_kept (suc zero) true h = refl
bit_kept (suc zero) false h = refl
bit_kept (suc (suc r)) b h = absurd (omega arith)

-- x shares its bits with a number whose lowest bit is b.
shares : (x : ℕ) (b : Bool) (m : ℕ)
    → eqb (bit_and x (bit b + 2 * m)) x ≡ ((eqb (x % 2) 0 or b) and eqb (bit_and (x / 2) m) (x / 2))
shares x b m =
    let half : (bit b + 2 * m) / 2 ≡ m = omega (arith, bit_small b) in
    let odd : (bit b + 2 * m) % 2 ≡ bit b = omega (arith, bit_small b) in
    let step = rw (half, odd) at (and_step x (bit b + 2 * m)) in
    digits_same x _ (bit_and (x / 2) m) (min (x % 2) (bit b)) step (omega (arith, min-le_left (x % 2) (bit b)))
    ∙ rw (bit_kept (x % 2) b (omega arith)) refl

-- ---- the mask from bit i on: what a bit n is worth in it, and all bits of a list

worth : ℕ → ℕ → ℕ
worth i n = when leb i n and ltb n 64 then 2 ^ (n - i) else 0

mask_from : ℕ → List ℕ → ℕ
mask_from i [] = 0
mask_from i (n ∷ ns) = worth i n + mask_from i ns

mask_whole : (ns : List ℕ) → mask_from 0 ns ≡ mask_of ns
unfolding mask_from mask_of worth ◌and◌
mask_whole [] = refl
mask_whole (n ∷ ns) = rw (le-leb 0 n (omega arith), sub-zero n, mask_whole ns) refl

module _ (i n : ℕ) where
  worth_here : i ≡ n → i < 64 → worth i n ≡ 1
  unfolding worth ◌and◌ when◌then◌else◌
  worth_here is h =
      let none : n - i ≡ 0 = omega arith in
      rw (le-leb i n (omega arith), lt-ltb n 64 (omega arith), none) refl

  worth_below : n < i → worth i n ≡ 0
  unfolding worth ◌and◌ when◌then◌else◌
  worth_below h = rw (lt-leb i n h) refl

  worth_above : i < n → worth i n ≡ 2 * worth (suc i) n
  unfolding worth ◌and◌ when◌then◌else◌
  worth_above h = rw (le-leb i n (omega arith), le-leb (suc i) n h) (go (ltb n 64))
    where
      go : (b : Bool) → (when b then 2 ^ (n - i) else 0) ≡ 2 * (when b then 2 ^ (n - suc i) else 0)
      go true = let e : n - i ≡ suc (n - suc i) = omega arith in rw e (omega (arith, pow-suc 2 (n - suc i)))
      go false = refl

worth_other : (i n : ℕ) → (i ≡ n → ⊥) → worth i n ≡ 2 * worth (suc i) n
worth_other i n other =
    each_way (ltb i n) (λ e. worth_above i n (ltb-true i n e))
    (λ e. each_way (ltb n i)
    (λ q. let below = ltb-true n i q in omega (arith, worth_below i n below, worth_below (suc i) n (omega arith)))
    (λ q. absurd (other (omega (arith, ltb-false i n e, ltb-false n i q)))))

-- Its lowest bit is whether the list has i.
low_bit : (i : ℕ) → i < 64 → (low : ℕ) (ns : List ℕ) → climbing low ns ≡ true
    → mask_from i ns ≡ bit (is_one_of i ns) + 2 * mask_from (suc i) ns
unfolding climbing mask_from is_one_of bit ◌or◌
low_bit i h low [] c = refl
low_bit i h low (n ∷ ns) c = go (eqb i n) refl (low_bit i h (suc n) ns above)
  where
    above : climbing (suc n) ns ≡ true
    above = and_right _ _ c

    go : (b : Bool) → eqb i n ≡ b → mask_from i ns ≡ bit (is_one_of i ns) + 2 * mask_from (suc i) ns
        → worth i n + mask_from i ns ≡ bit (b or is_one_of i ns) + 2 * (worth (suc i) n + mask_from (suc i) ns)
    go true e rest =
        let here = eqb-true i n e in
        let later = none_at i ns (λ j k q. omega (arith, climbs_from (suc n) ns above j k)) in
        omega (arith, rw later at rest, worth_here i n here h, worth_below (suc i) n (omega arith))
    go false e rest = omega (arith, worth_other i n (eqb-false i n e))

module _ (ns : List ℕ) (rises : climbing 0 ns ≡ true) where
  masked : (w i x : ℕ) → i + w ≡ 64 → x < 2 ^ w → eqb (bit_and x (mask_from i ns)) x ≡ only_bits ns i w x
  unfolding only_bits
  masked zero i x e h = let q : x ≡ 0 = omega arith in rw q refl
  masked (suc w) i x e h =
      rw (low_bit i (omega arith) 0 ns rises)
      (shares x (is_one_of i ns) (mask_from (suc i) ns)
      ∙ rw (masked w (suc i) (x / 2) (omega arith) (omega (arith, pow-suc 2 w))) refl)

  pub by_mask : (x : ℕ) → x < 2 ^ 64 → eqb (bit_and x (mask_of ns)) x ≡ only_bits ns 0 64 x
  by_mask x h = rw (← (mask_whole ns)) (masked 64 0 x refl h)
