-- A message up to its root block, and a header that is the book's own.
use mathlib.Core.Path.{◌≡◌, ◌∙◌, sym}
use mathlib.Core.Bool.{true}
use mathlib.Core.List.{List}
use Prim.Native.Nat.{ℕ, zero, suc, ◌+◌, ◌*◌, ◌<◌, ◌≤◌}
use native.Mathlib.Omega.{arith}
use lib.Dec.{eqb}
use borrow.Author.Tests.{eqb-true}
use Rattle.std.specs.Prelude.{Ok, Some}
use Rattle.layout.specs.Result.{◌>>=◌, must, when◌then◌else◌}
use Rattle.layout.specs.Octets.{null16}
use Rattle.layout.specs.BookRules.{word}
use Rattle.layout.specs.Operations.{told}
use Rattle.layout.specs.Message.{header_size, surplus_of}
use Rattle.layout.proofs.Results.{inv_if}
use Rattle.prepared.specs.Numbers.{contents_from}
use Rattle.prepared.specs.Positions.{is_big, many_datas, many_groups}
use Rattle.prepared.specs.Books.{HoldsBook, location_among, location_of}
use Rattle.prepared.proofs.Found.{found}
use Rattle.prepared.proofs.Open.{groups_here}
use Rattle.prepared.proofs.Rows.{shifted, unshifted}
use Rattle.wire.specs.Headers.{IsHeader}
use Rattle.wire.specs.Walks.{Lent}
use Rattle.wire.specs.declared.Header.{Header}
use Rattle.wire.proofs.Headers.{header_good}
use Rattle.wire.proofs.Steps.{steps}
use Rattle.counts.specs.Counts.{left_over}
use Rattle.counts.proofs.Counts.{over_none}
use Rattle.messages.specs.Openings.{is_own, known, known_at, open_at, opened}

-- What says `unfolding openings` is evaluated to the answer.
unfoldable pub openings : Unit {0}
unfolding told must ◌>>=◌ when◌then◌else◌ left_over surplus_of open_at known_at known
openings = tt

-- ---- a header that is the book's own

-- A template's id is not 65535.
rows_less : (p : List ℕ) (id a n w : ℕ) → ((i : ℕ) → i < n → word p (w + 2 * i) < null16)
    → location_among p id n w ≡ Some a → id < null16
unfolding location_among
rows_less p id a zero w rows e = cc
rows_less p id a (suc n) w rows e =
    inv_if (eqb (word p w) id) e
    (λ h q. omega (arith, eqb-true (word p w) id h, rw (unshifted w) at (rows 0 (omega arith))))
    (λ h q. rows_less p id a n (w + 2) (λ i h. rw (shifted w i) at (rows (suc i) (omega arith))) q)

own_numbers : (p : List ℕ) (a : ℕ) (h : Header) → is_own p a h ≡ true
    → (h.schema ≡ word p 0) × (h.version ≡ word p 1) × (h.groups ≡ many_groups p a) × (h.datas ≡ many_datas p a)
    × (word p (a + 6) ≤ h.length) × (h.length < null16)
unfolding is_own
own_numbers p a h own = grind (arith, steps)

module _ (p : List ℕ) (book : HoldsBook p) (m : List ℕ) (lent : Lent m header_size) (h : Header)
    (is : IsHeader (is_big p) m h) (a : ℕ) (at : location_of p h.template ≡ Some a) where
  pub opens_own : is_own p a h ≡ true
      → Ok (record { block = a; version = h.version; length = h.length; groups = 0; datas = 0 })
      ≡ told (opened (is_big p) m) (open_at p m)
  unfolding openings
  opens_own e =
      let own = own_numbers p a h e in
      let here = (found p book h.template a at).block in
      let block = here.block in
      let late : word p 1 ≤ h.version = omega (arith, own) in
      let less = rows_less p h.template a (word p 2) contents_from
      (λ i n. let t = book.templates i n in omega (arith, t.less)) at in
      let good = header_good h (word p 0) own.5 less (omega (arith, own, book.schema)) (omega (arith, own, book.version))
      (omega (arith, own, block.few_groups)) (omega (arith, own, block.few_datas)) own.0 (is_big p) m
      (lent.inside, lent.short) is in
      let groups = over_none (word p 1) h.version h.groups _ (omega (arith, own))
      (own.2 ∙ sym (groups_here p h.version 4 _ _ late here.row)) in
      let datas = over_none (word p 1) h.version h.datas _ (omega (arith, own))
      (own.3 ∙ sym (block.datas_here h.version late)) in
      let enough = block.needs h.version late in
      grind (arith, own.4)
