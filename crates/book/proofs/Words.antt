-- Where the words of a book stand in its octets: the one place that leads from the definitions' words to the code's
-- octets.
use mathlib.Core.Path.{◌≡◌, ap, refl}
use mathlib.Core.List.{List, [], ◌∷◌}
use Prim.Native.Nat.{◌*◌, ◌+◌, ◌-◌, ◌/◌, ◌≤◌, suc, zero, ℕ}
use native.Mathlib.Omega.{arith}
use lib.ListN.{drop, length, take}
use Rattle.layout.specs.Octets.{number_of, words_of}
use Rattle.layout.specs.BookRules.{word}

doubled : (w : ℕ) → 2 * suc w ≡ suc (suc (2 * w))
doubled w = omega arith

pub length_words : (s : List ℕ) → length (words_of s) ≡ length s / 2
unfolding words_of
length_words [] = refl
length_words (a ∷ []) = refl
length_words (a ∷ b ∷ s) = omega (arith, length_words s)

pub word_at : (s : List ℕ) (w : ℕ) → w + 1 ≤ length s / 2 → word (words_of s) w ≡ number_of (take 2 (drop (2 * w) s))
unfolding words_of number_of
word_at [] w h = absurd (omega arith)
word_at (a ∷ []) w h = absurd (omega arith)
word_at (a ∷ b ∷ s) zero h = omega arith
word_at (a ∷ b ∷ s) (suc w) h = rw (doubled w) (word_at s w (omega arith))

words_take : (s : List ℕ) (n : ℕ) → words_of (take (2 * n) s) ≡ take n (words_of s)
unfolding words_of
words_take [] zero = refl
words_take [] (suc n) = rw (doubled n) refl
words_take (a ∷ []) zero = refl
words_take (a ∷ []) (suc n) = rw (doubled n) refl
words_take (a ∷ b ∷ s) zero = refl
words_take (a ∷ b ∷ s) (suc n) = rw (doubled n) (ap (λ (l : List ℕ). (a + 256 * b) ∷ l) (words_take s n))

-- The words of a part are the part of the words.
pub words_part : (s : List ℕ) (k n : ℕ) → words_of (take (2 * n) (drop (2 * k) s)) ≡ take n (drop k (words_of s))
unfolding words_of
words_part s zero n = words_take s n
words_part [] (suc k) n = rw (doubled k) (words_take [] n)
words_part (a ∷ []) (suc k) n = rw (doubled k) (words_take [] n)
words_part (a ∷ b ∷ s) (suc k) n = rw (doubled k) (words_part s k n)

-- So are those of a part from `2 * k` to `2 * k + 2 * n`.
pub words_between : (s : List ℕ) (k n : ℕ) → words_of (take (2 * k + 2 * n - 2 * k) (drop (2 * k) s))
    ≡ take n (drop k (words_of s))
words_between s k n =
    let q : 2 * k + 2 * n - 2 * k ≡ 2 * n = omega arith in
    rw q (words_part s k n)
