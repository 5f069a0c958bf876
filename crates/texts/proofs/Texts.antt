-- How many of the n octets from `start` on are text, once i of them are known to be.
use mathlib.Core.Path.{◌∙◌, ◌≡◌, refl}
use mathlib.Core.List.{List}
use Prim.Native.Nat.{◌+◌, ◌-◌, ◌<◌, ◌≤◌, min, suc, zero, ℕ}
use native.Mathlib.Omega.{arith}
use lib.Dec.{eqb, ltb}
use lib.ListN.{drop, get_or, length, take}
use lib.Seq.{drop-cons}
use borrow.Author.Tests.{ltb-false, ltb-true, ne_eqb}
use Rattle.layout.specs.Result.{when◌then◌else◌}
use Rattle.layout.specs.Octets.{text_length}
use Rattle.layout.proofs.Results.{each_way}
use Rattle.texts.specs.Least.{Clear, least}

module _ (s : List ℕ) where
  pub least_next : (at n : ℕ) → least s at (n + 1) ≡ min (least s at n) (get_or s (at + n) 0)
  unfolding least
  least_next at n = let q : n + 1 ≡ suc n = omega arith in rw q refl

  -- One stretch after the other.
  clear_on : (at i w : ℕ) → Clear s at i → Clear s (at + i) w → Clear s at (i + w)
  clear_on at i w first second j below e =
      each_way (ltb j i)
      (λ t. first j (ltb-true j i t) e)
      (λ t. let q : at + j ≡ at + i + (j - i) = omega (arith, ltb-false j i t) in
      second (j - i) (omega (arith, ltb-false j i t)) (rw q at e))

  -- Two halves whose least is not 0.
  pub halves : (f : ℕ → ℕ) (w : ℕ) → ((at : ℕ) → 0 < f at → Clear s at w)
      → (at : ℕ) → 0 < min (f at) (f (at + w)) → Clear s at (w + w)
  halves f w each at h = clear_on at w w (each at (omega arith)) (each (at + w) (omega arith))

  -- As many as have a least that is not 0.
  clear_least : (at w : ℕ) → 0 < least s at w → Clear s at w
  unfolding least
  clear_least at zero h = λ j below e. omega (arith, below)
  clear_least at (suc w) h =
      let q : w + 1 ≡ suc w = omega arith in
      rw q at (clear_on at w 1 (clear_least at w (omega arith))
      (λ j below e. let r : at + w + j ≡ at + w = omega (arith, below) in omega (arith, rw r at e)))

  pub clear_past : (at i w : ℕ) → Clear s at i → 0 < least s (at + i) w → Clear s at (i + w)
  clear_past at i w clear h = clear_on at i w clear (clear_least (at + i) w h)

  module _ (start n : ℕ) (inside : start + n ≤ length s) where
    abbrev text : ℕ
    text = text_length (take n (drop start s))

    abbrev left : ℕ → ℕ
    left i = text_length (take (n - i) (drop (start + i) s))

    opened : (i : ℕ) → i < n
        → left i ≡ (when eqb (get_or s (start + i) 0) 0 then 0 else suc (left (suc i)))
    unfolding text_length
    opened i h =
        let q : n - i ≡ suc (n - suc i) = omega arith in
        let r : suc (start + i) ≡ start + suc i = omega arith in
        rw (q, drop-cons s (start + i) 0 (omega arith), r) refl

    pub text_rest : (i : ℕ) → i ≤ n → Clear s start i → text ≡ i + left i
    unfolding when◌then◌else◌
    text_rest zero h clear =
        let q : start + 0 ≡ start = omega arith in
        let r : n - 0 ≡ n = omega arith in
        rw (q, r) (omega arith)
    text_rest (suc i) h clear =
        text_rest i (omega arith) (λ j below. clear j (omega arith))
        ∙ rw (opened i h, ne_eqb (get_or s (start + i) 0) 0 (clear i (omega arith))) (omega arith)

    -- The first that is NUL, or the end.
    pub text_ends : (i : ℕ) → i ≤ n → Clear s start i → (i < n → get_or s (start + i) 0 ≡ 0) → text ≡ i
    unfolding text_length when◌then◌else◌
    text_ends i h clear ends =
        let q : n - n ≡ 0 = omega arith in
        text_rest i h clear
        ∙ each_way (ltb i n) (λ t. rw (opened i (ltb-true i n t), ends (ltb-true i n t)) (omega arith))
        (λ t. let r : i ≡ n = omega (arith, ltb-false i n t) in rw (r, q) (omega arith))
