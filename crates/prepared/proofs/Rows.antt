-- Rows of the contents, whose ids rise: where the row with an id lies.
use mathlib.Core.Path.{◌≡◌, refl}
use mathlib.Core.List.{List}
use Prim.Native.Nat.{◌*◌, ◌+◌, ◌<◌, suc, zero, ℕ}
use native.Mathlib.Omega.{arith}
use borrow.Author.Tests.{eq-eqb, ne_eqb}
use Rattle.layout.specs.Result.{when◌then◌else◌}
use Rattle.layout.specs.BookRules.{word}
use Rattle.bisect.proofs.Rising.{IsPlace}
use Rattle.prepared.specs.Numbers.{contents_from}
use Rattle.prepared.specs.Books.{HoldsBook, block_of, id_of, location_among, location_of}
use Rattle.std.specs.Prelude.{None, Some}

pub shifted : (w i : ℕ) → w + 2 * suc i ≡ w + 2 + 2 * i
shifted w i = omega arith

pub unshifted : (w : ℕ) → w + 2 * 0 ≡ w
unshifted w = omega arith

module _ (p : List ℕ) (id : ℕ) where
  -- Row i of those from number w on has another id.
  abbrev Other : ℕ → ℕ → Type 0
  Other w i = word p (w + 2 * i) ≡ id → ⊥

  place_here : (n w i : ℕ) → i < n → ((j : ℕ) → j < i → Other w j) → word p (w + 2 * i) ≡ id
      → location_among p id n w ≡ Some (word p (w + 2 * i + 1))
  unfolding location_among when◌then◌else◌
  place_here zero w i h others is = absurd (omega arith)
  place_here (suc n) w zero h others is = rw (unshifted w, eq-eqb (word p w) id (rw (unshifted w) at is)) refl
  place_here (suc n) w (suc i) h others is =
      rw (shifted w i, ne_eqb (word p w) id (rw (unshifted w) at (others 0 (omega arith))))
      (place_here n (w + 2) i (omega arith) (λ j l e. others (suc j) (omega arith) (rw (shifted w j) e))
      (rw (shifted w i) at is))

  no_place_lem : (n w : ℕ) → ((j : ℕ) → j < n → Other w j) → location_among p id n w ≡ None
  unfolding location_among when◌then◌else◌
  no_place_lem zero w others = refl
  no_place_lem (suc n) w others =
      rw (ne_eqb (word p w) id (rw (unshifted w) at (others 0 (omega arith))))
      (no_place_lem n (w + 2) (λ j l e. others (suc j) (omega arith) (rw (shifted w j) e)))

-- ---- the search

module _ (p : List ℕ) (book : HoldsBook p) (id : ℕ) where
  pub found_at : (i : ℕ) → i < word p 2 → id_of p i ≡ id → location_of p id ≡ Some (block_of p i)
  found_at i h is = place_here p id (word p 2) contents_from i h (λ j l e. omega (arith, book.rising j i l h)) is

  pub not_found : IsPlace (id_of p) (word p 2) id None → location_of p id ≡ None
  not_found none = no_place_lem p id (word p 2) contents_from none
