-- The prepared numbers of an accepted book hold it, and it is read back.
use mathlib.Core.Path.{◌≡◌, ap, refl, subst, sym, ◌∙◌}
use mathlib.Core.Bool.{Bool, false, true}
use mathlib.Core.List.{List, [], ◌∷◌, ◌++◌}
use Prim.Native.Nat.{ℕ, zero, suc, ◌+◌, ◌*◌, ◌%◌, ◌≤◌, ◌<◌}
use native.Mathlib.Omega.{arith}
use lib.Dec.{eqb}
use lib.ListN.{get_or, length, replicate, set}
use Rattle.layout.specs.Result.{when◌then◌else◌}
use Rattle.layout.specs.Octets.{null16}
use Rattle.layout.specs.Lists.{NameList}
use Rattle.layout.specs.Book.{Book, Template, group_sinces}
use Rattle.layout.specs.BookRules.{word}
use Rattle.layout.specs.Message.{dimension_size}
use Rattle.layout.proofs.Stands.{Stands, all_stands, split_to}
use Rattle.number_types.specs.Value.{order_of}
use Rattle.prepared.specs.Numbers.{bodies_of, contents_from, contents_of, groups_of, groups_size, lists_from}
use Rattle.prepared.specs.Numbers.{lists_numbers, lists_size, prepared_of, row_of, slots, slots_from, slots_of}
use Rattle.prepared.specs.Names.{lists_at}
use Rattle.prepared.specs.Positions.{BlockAt, Sized, inner_at, is_big, is_counted, shape_at, version_at}
use Rattle.prepared.specs.Books.{HoldsBook, IsPrepared, IsSlot, book_at, empty, id_of, leads, template_at}
use Rattle.prepared.specs.Books.{templates_at}
use Rattle.prepared.specs.Fits.{FitTemplates, Fits, FitsBook}
use Rattle.prepared.proofs.Open.{open_row}
use Rattle.prepared.proofs.Accepted.{accepted_fits}
use Rattle.prepared.proofs.Lists.{leads_to_names, lists_back}
use Rattle.prepared.proofs.Prepared.{LeadsToNames, first_at, length_contents, length_groups, length_lists}
use Rattle.prepared.proofs.Prepared.{length_slots, number_at, rises, row_stands}
use Rattle.prepared.proofs.Rows.{shifted, unshifted}

-- ---- slots

zeros : (n i : ℕ) → get_or {A = ℕ} (replicate n 0) i 0 ≡ 0
zeros zero i = refl
zeros (suc n) zero = refl
zeros (suc n) (suc i) = zeros n i

-- The contents after their first row.
contents_on : {p : List ℕ} {w to : ℕ} (t : Template) (ts : List Template) (at : ℕ)
    → Stands p w (contents_of (t ∷ ts) at) to → Stands p (w + 2) (contents_of ts (at + groups_size (row_of t))) to
unfolding contents_of
contents_on {w = w} t ts at c = (split_to (t.id ∷ at ∷ []) _ (w + 2) refl c).1

module _ (P : ℕ → Type 0) where
  set_holds : (ss : List ℕ) (k x : ℕ) → P x → ((j : ℕ) → P (get_or ss j 0)) → (j : ℕ) → P (get_or (set ss k x) j 0)
  set_holds [] k x h all j = all j
  set_holds (s ∷ ss) zero x h all zero = h
  set_holds (s ∷ ss) zero x h all (suc j) = all (suc j)
  set_holds (s ∷ ss) (suc k) x h all zero = all zero
  set_holds (s ∷ ss) (suc k) x h all (suc j) = set_holds ss k x h (λ i. all (suc i)) j

  -- What holds of the places in the contents, and of what the slots were, holds of the slots.
  slots_hold : (p : List ℕ) (ts : List Template) (w to at : ℕ) (ss : List ℕ) → Stands p w (contents_of ts at) to
      → ((i : ℕ) → i < length ts → P (word p (w + 2 * i + 1))) → ((j : ℕ) → P (get_or ss j 0))
      → (j : ℕ) → P (get_or (slots_of ts at ss) j 0)
  unfolding contents_of slots_of
  slots_hold p [] w to at ss c places all j = all j
  slots_hold p (t ∷ ts) w to at ss c places all j =
      let next = at + groups_size (row_of t) in
      let first = rw (unshifted w, number_at c 1 (omega arith)) at (places 0 (omega arith)) in
      slots_hold p ts (w + 2) to next (set ss (t.id % slots) at)
      (contents_on t ts at c)
      (λ i h. rw (shifted w i) at (places (suc i) (omega arith))) (set_holds ss (t.id % slots) at first all) j

-- ---- ids

ids_next : (p : List ℕ) (ls : List NameList) (version : ℕ) (ts : List Template) (low w to at : ℕ)
    → FitTemplates ls version low ts → Stands p w (contents_of ts at) to → (i : ℕ) → suc i < length ts
    → word p (w + 2 * i) < word p (w + 2 * suc i)
unfolding FitTemplates contents_of
ids_next p ls version [] low w to at f c i h = absurd (omega arith)
ids_next p ls version (t ∷ []) low w to at f c zero h = absurd (omega arith)
ids_next p ls version (t ∷ u ∷ ts) low w to at f c zero h =
    rw (number_at c 0 (omega arith), number_at c 2 (omega arith)) f.3.0
ids_next p ls version (t ∷ ts) low w to at f c (suc i) h =
    rw (shifted w i, shifted w (suc i))
    (ids_next p ls version ts (suc t.id) (w + 2) to _ f.3 (contents_on t ts at c) i (omega arith))

-- ---- templates

-- A template's block.
record IsRead (p : List ℕ) (a : ℕ) (t : Template) : Type 0 where
  block : BlockAt p 4 a
  named : word p a ≡ t.id
  is : template_at p a ≡ t

-- The row of the contents at w leads to a template.
record IsRow (p : List ℕ) (w : ℕ) : Type 0 where
  block : BlockAt p 4 (word p (w + 1))
  id : word p (word p (w + 1)) ≡ word p w
  less : word p w < null16

rows_on : (p : List ℕ) (n w : ℕ) → IsRow p w → ((i : ℕ) → i < n → IsRow p (w + 2 + 2 * i)) → (i : ℕ) → i < suc n
    → IsRow p (w + 2 * i)
rows_on p n w first rest zero h = subst (IsRow p) (sym (unshifted w)) first
rows_on p n w first rest (suc i) h = subst (IsRow p) (sym (shifted w i)) (rest i (omega arith))

module _ (p : List ℕ) (short : length p ≤ 65535) (sized : Sized p) (from : ℕ) (leads : LeadsToNames p from) where
  template_stands : (at to : ℕ) (t : Template) → Fits (lists_at p) (version_at p) 5 (row_of t)
      → Stands p at (groups_of (lists_at p) from (is_big p) (version_at p) (row_of t) at) to → IsRead p at t
  unfolding group_sinces
  template_stands at to t f s =
      let r = row_stands p short sized from leads 5 at to (row_of t) f s in
      let o = open_row p 5 1 at (omega arith) r.row in
      let e = sym o.tree ∙ r.tree in
      let id-is : word p at ≡ t.id = cc in
      let shape_is : shape_at p at ≡ t.shape = cc in
      let groups_are : inner_at p 4 at ≡ t.groups = cc in
      record { block = o.first; named = id-is; is = rw (id-is, shape_is, groups_are) refl }

  templates_stand : (ts : List Template) (low w to at end : ℕ) → FitTemplates (lists_at p) (version_at p) low ts
      → Stands p w (contents_of ts at) to → Stands p at (bodies_of (lists_at p) from (is_big p) (version_at p) ts at) end
      → ((i : ℕ) → i < length ts → IsRow p (w + 2 * i)) × (templates_at p (length ts) w ≡ ts)
  unfolding FitTemplates templates_at contents_of bodies_of
  templates_stand [] low w to at end f c b = (λ i h. absurd (omega arith), refl)
  templates_stand (t ∷ ts) low w to at end f c b =
      let next = at + groups_size (row_of t) in
      let id-is = first_at c in
      let place_is = number_at c 1 (omega arith) in
      let o = split_to (groups_of (lists_at p) from (is_big p) (version_at p) (row_of t) at)
      (bodies_of (lists_at p) from (is_big p) (version_at p) ts next) next
      (omega (arith, length_groups (lists_at p) from (is_big p) (version_at p) (row_of t) at)) b in
      let first = template_stands at next t f.2 o.0 in
      let rest = templates_stand ts (suc t.id) (w + 2) to next end f.3
      (contents_on t ts at c) o.1 in (
        rows_on p (length ts) w
            (record {
              block = subst (BlockAt p 4) (sym place_is) first.block;
              id = rw (place_is, id-is) first.named;
              less = rw id-is f.1;
            }) rest.0,
        rw (place_is, first.is, rest.1) refl,
      )

-- ---- the book

pub record Held (p : List ℕ) (b : Book) : Type 0 where
  pub holds : HoldsBook p
  pub back : book_at p ≡ b

order_back : (big : Bool) → eqb (order_of big) 1 ≡ big
unfolding when◌then◌else◌
order_back false = refl
order_back true = refl

counts_back : (counted : Bool) → eqb (dimension_size counted) 8 ≡ counted
counts_back false = refl
counts_back true = refl

-- p is the numbers of the book b.
pub book_stands : (p : List ℕ) (b : Book) → p ≡ prepared_of b → FitsBook b → Held p b
unfolding prepared_of
book_stands p b e f =
    let ls = b.lists in
    let ts = b.templates in
    let from = lists_from (length ts) in
    let at = from + lists_size ls in
    let ss = slots_of ts at (replicate slots 0) in
    let bodies = bodies_of ls from b.format.big b.version ts at in
    let short : length p ≤ 65535 = rw e (omega (arith, f.short)) in
    let all = subst (λ (xs : List ℕ). Stands p 0 xs (length p)) e (all_stands p) in
    let h = split_to (b.schema ∷ b.version ∷ length ts ∷ length ls ∷ order_of b.format.big
    ∷ dimension_size b.format.in_groups ∷ [])
    (ss ++ (contents_of ts at ++ (lists_numbers ls ++ bodies))) slots_from refl all in
    let s = split_to ss (contents_of ts at ++ (lists_numbers ls ++ bodies)) contents_from
    (omega (arith, length_slots ts at (replicate slots 0))) h.1 in
    let c = split_to (contents_of ts at) (lists_numbers ls ++ bodies) from (omega (arith, length_contents ts at))
    s.1 in
    let l = split_to (lists_numbers ls) bodies at (omega (arith, length_lists ls)) c.1 in
    let schema : word p 0 ≡ b.schema = number_at h.0 0 (omega arith) in
    let version : word p 1 ≡ b.version = number_at h.0 1 (omega arith) in
    let n : word p 2 ≡ length ts = number_at h.0 2 (omega arith) in
    let order : is_big p ≡ b.format.big = ap (λ x. eqb x 1) (number_at h.0 4 (omega arith)) ∙ order_back _ in
    let size : word p 5 ≡ dimension_size b.format.in_groups = number_at h.0 5 (omega arith) in
    let counts : is_counted p ≡ b.format.in_groups = ap (λ x. eqb x 8) size ∙ counts_back _ in
    let lists : lists_at p ≡ ls = lists_back p _ ls at n (number_at h.0 3 (omega arith)) l.0 in
    let names = leads_to_names p from at (omega arith) (rw lists f.lists) (rw lists l.0) in
    let sized = size ∙ ap dimension_size (sym counts) in
    let t = templates_stand p short sized from names ts 0 contents_from from at (length p)
    (rw (version, lists) f.templates) c.0 (rw (order, version, lists) l.1) in
    record {
      holds = record {
        short = short;
        fits = rw n c.0.fits;
        schema = rw schema f.schema;
        version = rw version f.version;
        few = rw n f.few;
        templates = λ i k. let row = t.0 i (rw n at k) in
            record { block = row.block; id = row.id; less = row.less };
        rising = λ i j k l.
            let next = ids_next p _ _ ts 0 contents_from from at f.templates c.0 in
            let l' = rw n at l in
            omega (
              arith,
              next i (omega arith),
              rises (id_of p) (length ts) (λ i k. omega (arith, next i k)) (suc i) j k l',
            );
        slot = λ j k.
            subst (IsSlot p) (sym (number_at s.0 j (omega (arith, length_slots ts at (replicate slots 0)))))
            (slots_hold (IsSlot p) p ts contents_from from at (replicate slots 0) c.0
            (λ i k. leads i (rw n k) refl) (λ j. empty (zeros slots j)) j);
      };
      back = rw (schema, version, order, counts, n, lists, t.1) refl;
    }

module _ {p : List ℕ} (h : IsPrepared p) where
  fits : FitsBook h.tree
  fits = accepted_fits h.octets h.tree h.accepted

  pub holds_book : HoldsBook p
  holds_book = (book_stands p h.tree h.is fits).holds

  pub book_back : book_at p ≡ h.tree
  book_back = (book_stands p h.tree h.is fits).back

  -- So many numbers are enough for every book.
  pub length_prepared : length p ≤ 8260
  length_prepared = rw h.is fits.short
