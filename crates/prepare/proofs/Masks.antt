-- The mask of rising numbers: each of them adds a bit of its own.
use Rattle.std.proofs.Common.{◌≡◌, ℕ, suc, ◌+◌, ◌-◌, ◌/◌, ◌^◌, ◌<◌, ◌≤◌, Bool, true, false, ltb, List, [], ◌∷◌, length, refl, pow-suc, arith, pow_mono, ltb-false, ltb-true, le-ltb, leb-true}
use Rattle.layout.specs.Result.{when◌then◌else◌}
use Rattle.layout.specs.Octets.{words_of}
use Rattle.layout.specs.BookRules.{climbing, word}
use Rattle.layout.proofs.Results.{and_left, and_right}
use lib.Seq.{drop-cons}
use Rattle.book.proofs.NameLists.{numbers_left}
use Rattle.book.proofs.Words.{length_words}
use Rattle.prepared.specs.Numbers.{bit_of, mask_of}

-- Numbers from 64 on are no bits.
high_none : (low : ℕ) (ns : List ℕ) → 64 ≤ low → climbing low ns ≡ true → mask_of ns ≡ 0
unfolding climbing mask_of when◌then◌else◌
high_none low [] h g = refl
high_none low (n ∷ ns) h g =
    let l = leb-true low n (and_left _ _ g) in
    rw (le-ltb n 64 (omega arith), high_none (suc n) ns (omega arith) (and_right _ _ g)) refl

-- Bits from `low` on leave room for those below.
mask_above : (low : ℕ) (ns : List ℕ) → low ≤ 64 → climbing low ns ≡ true → mask_of ns + 2 ^ low ≤ 2 ^ 64
unfolding climbing mask_of when◌then◌else◌
mask_above low [] h g = omega (arith, pow_mono h)
mask_above low (n ∷ ns) h g = go (λ below. mask_above (suc n) ns below (and_right _ _ g)) (ltb n 64) refl
  where
    go : (suc n ≤ 64 → mask_of ns + 2 ^ suc n ≤ 2 ^ 64) → (t : Bool) → ltb n 64 ≡ t
        → (when t then 2 ^ n else 0) + mask_of ns + 2 ^ low ≤ 2 ^ 64
    go others true e =
        let least = leb-true low n (and_left _ _ g) in
        omega (arith, others (ltb-true n 64 e), pow-suc 2 n, pow_mono least)
    go others false e =
        let far = ltb-false n 64 e in
        omega (arith, high_none (suc n) ns (omega arith) (and_right _ _ g), pow_mono h)

-- So a mask fits.
pub mask_small : (ns : List ℕ) → climbing 0 ns ≡ true → mask_of ns < 2 ^ 64
mask_small ns g = omega (arith, mask_above 0 ns (omega arith) g)

-- Of the numbers up to word `end` the one at word w is a bit, and the rest.
pub mask_step : (s : List ℕ) (end w : ℕ) → w < end → end ≤ length s / 2 → let b = words_of s in
    mask_of (numbers_left b end w) ≡ bit_of (word b w) + mask_of (numbers_left b end (w + 1))
unfolding mask_of
mask_step s end w h f =
    let q : end - w ≡ suc (end - (w + 1)) = omega arith in
    let r : w + 1 ≡ suc w = omega arith in
    rw (q, r, drop-cons (words_of s) w 0 (omega (arith, length_words s))) refl

pub mask_none : (b : List ℕ) (end w : ℕ) → end ≤ w → mask_of (numbers_left b end w) ≡ 0
unfolding mask_of
mask_none b end w h = let q : end - w ≡ 0 = omega arith in rw q refl
