-- The last field that is present decides the need of a block.
use mathlib.Core.Path.{◌∙◌, ◌≡◌, refl, subst}
use mathlib.Core.List.{List}
use Prim.Native.Nat.{ℕ, zero, suc, ◌+◌, ◌-◌, ◌*◌, ◌<◌, ◌≤◌}
use native.Mathlib.Omega.{arith}
use lib.Dec.{leb}
use borrow.Author.Tests.{le-leb, lt-leb}
use Rattle.layout.specs.Result.{when◌then◌else◌}
use Rattle.layout.specs.Lists.{NameList}
use Rattle.layout.specs.Book.{end, need_after}
use Rattle.layout.specs.BookRules.{field_at, parse_fields, word}
use Rattle.prepared.specs.Names.{lists_at}
use Rattle.prepared.specs.Needs.{FieldsUpTo}
use Rattle.prepared.specs.Positions.{IsBlock, fields_from, many_fields}

module _ (ls : List NameList) (b : List ℕ) where
  -- The last of n + 1 fields decides if it is present, and leaves it to those before it if not.
  pub need_last : (v n e w : ℕ)
      → need_after v e (parse_fields ls b (suc n) w)
      ≡ (when leb (word b (w + 7 * n + 5)) v then end (field_at ls b (w + 7 * n))
      else need_after v e (parse_fields ls b n w))
  unfolding need_after parse_fields
  need_last v zero e w = let q : w + 7 * 0 ≡ w = omega arith in rw q refl
  need_last v (suc n) e w =
      let q : w + 7 * suc n ≡ w + 7 + 7 * n = omega arith in
      rw q (need_last v n (when leb (word b (w + 5)) v then end (field_at ls b w) else e) (w + 7))

  pub need_here : (v n e w : ℕ) → 0 < n → word b (w + 7 * (n - 1) + 5) ≤ v
      → need_after v e (parse_fields ls b n w) ≡ end (field_at ls b (w + 7 * (n - 1)))
  need_here v n e w some-are s =
      let q : suc (n - 1) ≡ n = omega arith in
      subst (λ k. need_after v e (parse_fields ls b k w) ≡ end (field_at ls b (w + 7 * (n - 1)))) q
      (rw (need_last v (n - 1) e w, le-leb _ v s) (unfold when◌then◌else◌ in refl))

  need_later : (v n e w : ℕ) → v < word b (w + 7 * n + 5)
      → need_after v e (parse_fields ls b (suc n) w) ≡ need_after v e (parse_fields ls b n w)
  need_later v n e w s = rw (need_last v n e w, lt-leb _ v s) (unfold when◌then◌else◌ in refl)

  -- Fields that are absent after the first n change nothing.
  need_cut : (v n k e w : ℕ) → ((i : ℕ) → n ≤ i → i < n + k → v < word b (w + 7 * i + 5))
      → need_after v e (parse_fields ls b (n + k) w) ≡ need_after v e (parse_fields ls b n w)
  need_cut v n zero e w h = let q : n + 0 ≡ n = omega arith in rw q refl
  need_cut v n (suc k) e w h =
      let q : n + suc k ≡ suc (n + k) = omega arith in
      rw q (need_later v (n + k) e w (h (n + k) (omega arith) (omega arith))
      ∙ need_cut v n k e w (λ i l u. h i l (omega arith)))

  pub need_none : (v e w : ℕ) → need_after v e (parse_fields ls b 0 w) ≡ e
  unfolding need_after parse_fields
  need_none v e w = refl

-- The fields before field r are present as far as the last of them is, and absent from it on if it is: none falls.
pub fields_up_to : (p : List ℕ) (a v r : ℕ) → IsBlock p a → r ≤ many_fields p a
    → (0 < r → word p (fields_from p a + 7 * (r - 1) + 5) ≤ v)
    → (r < many_fields p a → v < word p (fields_from p a + 7 * r + 5)) → FieldsUpTo p a v r
fields_up_to p a v r block few last past =
    let n = many_fields p a in
    let q : r + (n - r) ≡ n = omega arith in
    record {
      few = few;
      last = last;
      need = rw q at (need_cut (lists_at p) p v r (n - r) 0 (fields_from p a)
          (λ i from to. omega (arith, block.rising r i from (omega arith), past (omega arith))));
    }
