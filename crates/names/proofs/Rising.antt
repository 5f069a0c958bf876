-- The numbers of a list rise: whether one is among them, told by where it can stand.
use mathlib.Core.Path.{◌≡◌, ◌∙◌, refl, sym}
use mathlib.Core.Bool.{Bool, false, true}
use mathlib.Core.List.{List, [], ◌∷◌}
use Prim.Native.Nat.{◌+◌, ◌<◌, ◌≤◌, suc, zero, ℕ}
use native.Mathlib.Omega.{arith}
use lib.Dec.{eqb}
use lib.ListN.{drop, get_or, length, length-drop}
use lib.Seq.{get_or-drop, get_or-take, length-take-le}
use borrow.Author.Tests.{eq-eqb, leb-true, ne_eqb}
use Rattle.layout.specs.Result.{◌or◌}
use Rattle.layout.specs.Lists.{is_one_of}
use Rattle.layout.specs.BookRules.{climbing, word}
use Rattle.layout.proofs.Results.{and_left, and_right}
use Rattle.std.specs.Prelude.{None, Option, Some, is_some}
use Rattle.bisect.proofs.Rising.{IsPlace}
use Rattle.prepared.specs.Names.{IsList, list_at}

pub climbs_from : (low : ℕ) (ns : List ℕ) → climbing low ns ≡ true → (i : ℕ) → i < length ns → low ≤ get_or ns i 0
unfolding climbing
climbs_from low [] c i h = absurd (omega arith)
climbs_from low (n ∷ ns) c zero h = leb-true low n (and_left _ _ c)
climbs_from low (n ∷ ns) c (suc i) h =
    omega (arith, leb-true low n (and_left _ _ c), climbs_from (suc n) ns (and_right _ _ c) i (omega arith))

climbs : (low : ℕ) (ns : List ℕ) → climbing low ns ≡ true → (i j : ℕ) → i < j → j < length ns
    → get_or ns i 0 < get_or ns j 0
unfolding climbing
climbs low [] c i j h k = absurd (omega arith)
climbs low (n ∷ ns) c i zero h k = absurd (omega arith)
climbs low (n ∷ ns) c zero (suc j) h k = climbs_from (suc n) ns (and_right _ _ c) j (omega arith)
climbs low (n ∷ ns) c (suc i) (suc j) h k = climbs (suc n) ns (and_right _ _ c) i j (omega arith) (omega arith)

module _ (x : ℕ) where
  one_at : (ns : List ℕ) (i : ℕ) → i < length ns → get_or ns i 0 ≡ x → is_one_of x ns ≡ true
  unfolding is_one_of ◌or◌
  one_at [] i h e = absurd (omega arith)
  one_at (n ∷ ns) zero h e = rw (eq-eqb x n (omega (arith, e))) refl
  one_at (n ∷ ns) (suc i) h e = rw (one_at ns i (omega arith) e) (go (eqb x n))
    where
      go : (b : Bool) → (b or true) ≡ true
      go true = refl
      go false = refl

  pub none_at : (ns : List ℕ) → ((i : ℕ) → i < length ns → get_or ns i 0 ≡ x → ⊥) → is_one_of x ns ≡ false
  unfolding is_one_of ◌or◌
  none_at [] other = refl
  none_at (n ∷ ns) other =
      rw (ne_eqb x n (λ e. other 0 (omega arith) (omega (arith, e)))) (none_at ns (λ i h. other (suc i) (omega arith)))

-- ---- the list at a

abbrev pub number_at : List ℕ → ℕ → ℕ → ℕ
number_at p a i = word p (a + 4 + i)

module _ (p : List ℕ) (a : ℕ) (list : IsList p a) where
  many : length (list_at p a).numbers ≡ word p (a + 3)
  many = length-take-le _ _ (rw (length-drop (a + 4) p) (omega (arith, list.fits)))

  at : (i : ℕ) → i < word p (a + 3) → get_or (list_at p a).numbers i 0 ≡ number_at p a i
  at i h = get_or-take (word p (a + 3)) (drop (a + 4) p) i 0 h ∙ get_or-drop (a + 4) p i 0

  pub rising : (i j : ℕ) → i < j → j < word p (a + 3) → number_at p a i < number_at p a j
  rising i j h k =
      omega (arith, at i (omega arith), at j k, climbs 0 _ list.rises i j h (omega (arith, many)))

  module _ (x : ℕ) where
    pub among : (i : ℕ) → i < word p (a + 3) → number_at p a i ≡ x → is_one_of x (list_at p a).numbers ≡ true
    among i h e = one_at x (list_at p a).numbers i (omega (arith, many)) (at i h ∙ e)

    pub not_among : ((i : ℕ) → i < word p (a + 3) → number_at p a i ≡ x → ⊥)
        → is_one_of x (list_at p a).numbers ≡ false
    not_among other =
        none_at x (list_at p a).numbers
        (λ i h e. let k : i < word p (a + 3) = omega (arith, many) in other i k (sym (at i k) ∙ e))

    -- Where a search finds it, it is among them.
    pub among_as : (r : Option ℕ) → IsPlace (number_at p a) (word p (a + 3)) x r → is_some r ≡ is_one_of x (list_at p a).numbers
    among_as (Some i) (inside, is) = sym (among i inside is)
    among_as None none = sym (not_among none)
