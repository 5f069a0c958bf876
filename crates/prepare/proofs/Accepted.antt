-- What an accepted book is good for: its templates are read by position, and its prepared numbers are few.
use Rattle.std.proofs.Common.{◌≡◌, ℕ, zero, suc, ◌+◌, ◌*◌, ◌/◌, ◌<◌, ◌≤◌, leb, List, length, sym, refl, ap, ◌∙◌, subst, zero-add, arith, eqb-true, le-leb, leb-true}
use lib.Seq.{sets, sets-eq}
use borrow.Author.Tests.{lt-leb}
use Rattle.layout.specs.Result.{◌>>=◌, done, must, refused}
use Rattle.layout.specs.Octets.{words_of}
use Rattle.layout.specs.Book.{Groups, Shape, Template, more}
use Rattle.layout.specs.Lists.{NameList}
use Rattle.layout.specs.BookRules.{book_of, head_size, parse_bodies, parse_body, parse_contents, parse_groups, parse_shape}
use Rattle.layout.specs.BookRules.{tree_of, word}
use Rattle.layout.specs.Operations.{checked, refusal, room_after, told}
use Rattle.layout.specs.declared.Reason.TheVariants.{BookBlock, RoomTooSmall}
use Rattle.std.specs.Prelude.{Err, Ok}
use Rattle.layout.proofs.Accepted.{each_good, keeps_rules}
use Rattle.layout.proofs.Told.{inv_ok}
use Rattle.layout.proofs.Results.{bind_done, done_inj, inv_bind, inv_both, inv_must, inv_refusal}
use Rattle.book.specs.Rows.{HasLists}
use Rattle.book.proofs.Rows.{body_lies, head_says}
use Rattle.book.proofs.Words.{length_words, words_between}
use Rattle.prepared.specs.Numbers.{lists_from, lists_size, prepared_of, sizes_of}
use Rattle.prepared.proofs.Books.{length_prepared}
use Rattle.prepared.proofs.Prepared.{length_numbers}
use Rattle.prepare.specs.Names.{lists_in}
use Rattle.prepare.specs.Positions.{IsRow, groups_at, groups_end, groups_from, inner_at, inner_end, many_groups}
use Rattle.prepare.specs.Positions.{shape_at}
use Rattle.prepare.specs.Prepares.{IsBook, Prepares, preparing}
use Rattle.prepare.specs.Templates.{IsBody, IsPreparable, IsTemplate, body_at, book_at, templates_at}
use Rattle.prepare.proofs.Templates.{length_templates}

-- A checked book is a book.
pub is_book : (s : List ℕ) (u : Unit {0}) → Ok u ≡ checked (book_of s) → IsBook s
is_book s u e = let k = inv_ok _ (book_of s) u e in record { tree = k.value; is = k.is }

-- ---- bodies

same_group : (i since : ℕ) {s s' : Shape} {inner inner' rest rest' : Groups} → s ≡ s' → inner ≡ inner' → rest ≡ rest'
    → more i since s inner rest ≡ more i since s' inner' rest'
same_group i since p q r = rw (p, q, r) refl

module _ (ls : List NameList) (s : List ℕ) where
  abbrev b : List ℕ
  b = words_of s

  -- A shape that was parsed at word w, its number of groups, and the word after it.
  record ShapeIs (w : ℕ) (r : Shape × ℕ × ℕ) : Type 0 where
    fits : groups_from s w ≤ length s / 2
    shape : shape_at ls s w ≡ r.0
    count : many_groups s w ≡ r.1
    from : groups_from s w ≡ r.2

  shape_is : (few w : ℕ) (r : Shape × ℕ × ℕ) → parse_shape ls b few w ≡ done r → ShapeIs w r
  unfolding parse_shape
  shape_is few w r e =
      let p = inv_bind _ _ _ (inv_bind _ _ _ (inv_bind _ _ _ e).next).next in
      subst (ShapeIs w) (done_inj p.next)
      (record {
        fits = omega (arith, leb-true (groups_from s w) (length b) (inv_must _ _ _ _ p.first), length_words s);
        shape = refl;
        count = refl;
        from = refl;
      })

  -- Groups that were parsed at word w, and the word after them.
  record RowIs (depth n w : ℕ) (r : Groups × ℕ) : Type 0 where
    row : IsRow s depth n w
    tree : groups_at ls s depth n w ≡ r.0
    end : groups_end s depth n w ≡ r.1

  row_is_lem : (depth n w : ℕ) (r : Groups × ℕ) → parse_groups ls b depth n w ≡ done r → RowIs depth n w r
  unfolding parse_groups IsRow groups_at groups_end
  row_is_lem zero zero w r e = subst (RowIs 0 0 w) (done_inj e) (record { row = tt; tree = refl; end = refl })
  row_is_lem (suc depth) zero w r e =
      subst (RowIs (suc depth) 0 w) (done_inj e) (record { row = tt; tree = refl; end = refl })
  row_is_lem zero (suc n) w r e = absurd (let z : ◌≡◌ {A = ℕ} 0 1 = cc in omega arith)
  row_is_lem (suc depth) (suc n) w r e =
      let p = inv_bind _ _ _ e in
      let q = inv_bind _ _ _ p.next in
      let k = inv_bind _ _ _ q.next in
      let o = shape_is 1 (w + 2) p.value p.first in
      let inner = row_is_lem depth (many_groups s (w + 2)) (groups_from s (w + 2)) q.value
      (rw (o.count, o.from) q.first) in
      let rest = row_is_lem (suc depth) n (inner_end s depth (w + 2)) k.value (rw inner.end k.first) in
      subst (RowIs (suc depth) (suc n) w) (done_inj k.next)
      (record {
        row = (o.fits, inner.row, rest.row);
        tree = same_group _ _ o.shape inner.tree rest.tree;
        end = rest.end;
      })

  record BodyIs (r : Shape × Groups) : Type 0 where
    body : IsBody s
    shape : shape_at ls s 0 ≡ r.0
    groups : inner_at ls s 4 0 ≡ r.1

  body_is : (r : Shape × Groups) → parse_body ls b ≡ done r → BodyIs r
  unfolding parse_body
  body_is r e =
      let p = inv_bind _ _ _ e in
      let q = inv_bind _ _ _ p.next in
      let k = inv_bind _ _ _ q.next in
      let o = shape_is 0 0 p.value p.first in
      let inner = row_is_lem 4 (many_groups s 0) (groups_from s 0) q.value (rw (o.count, o.from) q.first) in
      let whole = eqb-true q.value.1 (length b) (inv_must _ _ _ _ k.first) in
      subst BodyIs (done_inj k.next)
      (record {
        body = record {
          block = record { fits = o.fits; row = inner.row };
          end = inner.end ∙ whole ∙ length_words s;
        };
        shape = o.shape;
        groups = inner.tree;
      })

-- ---- the templates of n rows from word w on

templates_on : (s : List ℕ) (n w : ℕ) → IsTemplate s w → ((i : ℕ) → i < n → IsTemplate s (w + 3 + 3 * i)) → (i : ℕ)
    → i < suc n → IsTemplate s (w + 3 * i)
templates_on s n w first rest zero h = let q : w + 3 * 0 ≡ w = omega arith in rw q first
templates_on s n w first rest (suc i) h =
    let q : w + 3 * suc i ≡ w + 3 + 3 * i = omega arith in rw q (rest i (omega arith))

rows_are : (s : List ℕ) (t n w : ℕ) (ts : List Template) → w + 3 * n ≤ length s / 2
    → ((i : ℕ) → i < n → word (words_of s) (w + 3 * i + 1) + word (words_of s) (w + 3 * i + 2) ≤ length s / 2)
    → parse_bodies (lists_in s) (words_of s) t (parse_contents (words_of s) n w) ≡ done ts
    → ((i : ℕ) → i < n → IsTemplate s (w + 3 * i)) × (ts ≡ templates_at s n w)
unfolding parse_contents parse_bodies templates_at
rows_are s t zero w ts h l e = (λ i k. absurd (omega arith), sym (done_inj e))
rows_are s t (suc n) w ts h l e =
    let b = words_of s in
    let p = inv_bind _ _ _ e in
    let q = inv_bind _ _ _ p.next in
    let o : w + 3 * 0 ≡ w = omega arith in
    let k : (i : ℕ) → w + 3 * suc i ≡ w + 3 + 3 * i = λ i. omega arith in
    let body = body_is (lists_in s) (body_at s w) p.value
    (rw (words_between s (word b (w + 1)) (word b (w + 2))) (inv_refusal _ _ _ _ p.first)) in
    let rest = rows_are s (suc t) n (w + 3) q.value (omega arith)
    (λ i j. rw (k i) at (l (suc i) (omega arith))) q.first in (
      templates_on s n w (record { fits = omega arith; lies = rw o at (l 0 (omega arith)); body = body.body }) rest.0,
      sym (done_inj q.next) ∙ rw (body.shape, body.groups, rest.1) refl,
    )

-- ---- the book

preparable : (s : List ℕ) (k : IsBook s) → IsPreparable s (word (words_of s) 2) × (k.tree ≡ book_at s)
unfolding tree_of
preparable s k =
    let p₂ = inv_bind _ _ _ (inv_bind _ _ _ (keeps_rules s k.tree k.is).tree).next in
    let p₃ = inv_bind _ _ _ p₂.next in
    let p₄ = inv_both _ _ _ _ p₃.next in
    let n = word (words_of s) 2 in
    let has : HasLists s = record { head = record { good = inv_must _ _ _ _ p₂.first }; kept = p₃.first } in
    let r = rows_are s 0 n head_size p₄.value (omega (arith, (head_says s has.head).fits)) (body_lies s has)
    p₄.first in
    let tree : k.tree ≡ book_at s = sym p₄.is ∙ rw r.1 refl in
    let short = length_prepared (record { octets = s; tree = k.tree; accepted = k.is; is = refl }) in (
      record {
        lists = record { has = has; fits = (head_says s has.head).fits; good = each_good _ BookBlock _ (lists_in s) p₄.other p₄.second };
        count = refl;
        templates = r.0;
        few = omega (arith, rw (tree, length_numbers (book_at s), length_templates s n head_size) at short);
      },
      tree,
    )

-- ---- the contract, n being the number of templates and `size` that of the numbers

module _ (s : List ℕ) (k : IsBook s) (n : ℕ) (count_is : n ≡ word (words_of s) 2) where
  pub ready : IsPreparable s n
  ready = subst (λ (x : ℕ). IsPreparable s x) (sym count_is) (preparable s k).0

  module _ (before : List ℕ) (size : ℕ)
      (is : size ≡ lists_from n + lists_size (lists_in s) + sizes_of (templates_at s n head_size)) where
    abbrev made : List ℕ
    made = prepared_of (book_at s)

    long : length made ≡ size
    long =
        length_numbers (book_at s) ∙ ap (λ (x : ℕ). lists_from x + lists_size (lists_in s) + sizes_of (book_at s).templates)
        (length_templates s (word (words_of s) 2) head_size)
        ∙ ap (λ (x : ℕ). lists_from x + lists_size (lists_in s) + sizes_of (templates_at s x head_size)) (sym count_is)
        ∙ sym is

    says : preparing s (length before) ≡ (must (leb size (length before)) RoomTooSmall size >>= λ _. done made)
    unfolding preparing
    says = rw (k.is, bind_done, (preparable s k).1, long) refl

    pub no_room : length before < size → Prepares s before (Err (refusal RoomTooSmall size)) before
    unfolding must ◌>>=◌ told room_after
    no_room h =
        let e : preparing s (length before) ≡ refused RoomTooSmall size = says ∙ rw (lt-leb size (length before) h) refl in
        record { answer = rw e refl; room = rw e refl }

    pub prepared : size ≤ length before → (after : List ℕ) → after ≡ sets before 0 made
        → Prepares s before (Ok size) after
    unfolding must ◌>>=◌ told room_after
    prepared h after stored =
        let e : preparing s (length before) ≡ done made = says ∙ rw (le-leb size (length before) h) refl in
        let from : 0 + length made ≡ length made = zero-add _ in
        record {
          answer = rw (e, long) refl;
          room = rw e (stored ∙ sets-eq made before 0 (omega (arith, long)) ∙ rw from refl);
        }
