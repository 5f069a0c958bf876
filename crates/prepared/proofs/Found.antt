-- What is found among prepared numbers is the book's.
use mathlib.Core.Path.{◌∙◌, ◌≡◌, refl, sym}
use mathlib.Core.Bool.{Bool, false, true}
use mathlib.Core.List.{List, ◌∷◌}
use mathlib.Core.Option.{none as no, some}
use Prim.Native.Nat.{◌*◌, ◌+◌, ◌<◌, suc, zero, ℕ}
use native.Mathlib.Omega.{arith}
use lib.Dec.{eqb}
use lib.ListN.{length}
use borrow.Author.Tests.{eqb-true}
use Rattle.layout.specs.Result.{when◌then◌else◌}
use Rattle.layout.specs.Book.{Template, find_template}
use Rattle.layout.specs.BookRules.{word}
use Rattle.prepared.specs.Positions.{BlockAt}
use Rattle.prepared.specs.Numbers.{contents_from}
use Rattle.prepared.specs.Books.{HoldsBook, IsSlot, book_at, empty, leads, location_among, location_of, template_at}
use Rattle.prepared.specs.Books.{templates_at}
use Rattle.std.specs.Prelude.{None, Option, Some}
use Rattle.prepared.proofs.Rows.{found_at, shifted, unshifted}

-- ---- slots

module _ (p : List ℕ) (book : HoldsBook p) (a : ℕ) where
  -- A slot that is not empty leads to a block.
  pub slot_lies : IsSlot p a → 0 < a → a < length p
  slot_lies (empty e) h = absurd (omega arith)
  slot_lies (leads i within is) h = rw is (omega (arith, (book.templates i within).block.block.fields_fit))

  pub slot_leads : (id : ℕ) → IsSlot p a → 0 < a → word p a ≡ id → Some a ≡ location_of p id
  slot_leads id (empty e) h is = absurd (omega arith)
  slot_leads id (leads i within leads-to) h is =
      rw leads-to (sym (found_at p book id i within (sym (book.templates i within).id ∙ rw leads-to at is)))

-- ---- templates

-- The block at a is that of the template with this id, among ts.
pub record Found (p : List ℕ) (id a : ℕ) (ts : List Template) : Type 0 where
  pub block : BlockAt p 4 a
  pub named : word p a ≡ id
  pub template : find_template id ts ≡ some (template_at p a)

-- What a place says of the templates ts.
unfoldable Says : List ℕ → ℕ → List Template → Option ℕ → Type 0
Says p id ts (Some a) = Found p id a ts
Says p id ts None = find_template id ts ≡ no

-- One row more.
next_says : (p : List ℕ) (id w : ℕ) (ts : List Template) (r : Option ℕ) → BlockAt p 4 (word p (w + 1))
    → word p (word p (w + 1)) ≡ word p w → Says p id ts r
    → Says p id (template_at p (word p (w + 1)) ∷ ts) (when eqb (word p w) id then Some (word p (w + 1)) else r)
next_says p id w ts r block named s = go (eqb (word p w) id) refl r s
  where
    go : (t : Bool) → eqb (word p w) id ≡ t → (r : Option ℕ) → Says p id ts r
        → Says p id (template_at p (word p (w + 1)) ∷ ts) (when t then Some (word p (w + 1)) else r)
    go true e r s =
        unfold Says find_template when◌then◌else◌ in
        record { block = block; named = named ∙ eqb-true _ id e; template = rw (named, e) refl }
    go false e (Some a) s =
        unfold Says find_template when◌then◌else◌ in
        record { block = s.block; named = s.named; template = rw (named, e) s.template }
    go false e None s = unfold Says find_template when◌then◌else◌ in rw (named, e) s

rows_say : (p : List ℕ) (id n w : ℕ)
    → ((i : ℕ) → i < n → BlockAt p 4 (word p (w + 2 * i + 1)) × (word p (word p (w + 2 * i + 1)) ≡ word p (w + 2 * i)))
    → Says p id (templates_at p n w) (location_among p id n w)
unfolding location_among templates_at
rows_say p id zero w rows = unfold Says find_template in refl
rows_say p id (suc n) w rows =
    let row = rw (unshifted w) at (rows 0 (omega arith)) in
    next_says p id w _ _ row.0 row.1
    (rows_say p id n (w + 2) (λ i h. rw (shifted w i) at (rows (suc i) (omega arith))))

module _ (p : List ℕ) (book : HoldsBook p) (id : ℕ) where
  all_say : Says p id (book_at p).templates (location_of p id)
  all_say = rows_say p id (word p 2) contents_from (λ i h. let t = book.templates i h in (t.block, t.id))

  pub found : (a : ℕ) → location_of p id ≡ Some a → Found p id a (book_at p).templates
  found a e = unfold Says in (rw e at all_say)

  pub not_found : location_of p id ≡ None → find_template id (book_at p).templates ≡ no
  not_found e = unfold Says in (rw e at all_say)
