-- A book's octets with the other order word are the same book of the other order: no other rule reads that word.
use mathlib.Core.Path.{◌∙◌, ◌≡◌, ap, refl, sym}
use mathlib.Core.Bool.{false, not, true}
use mathlib.Core.List.{List, [], ◌∷◌, map}
use Prim.Native.Nat.{◌*◌, ◌+◌, ◌-◌, ◌<◌, ◌≤◌, suc, zero, ℕ}
use native.Mathlib.Omega.{arith}
use lib.Dec.{eqb, leb}
use lib.ListN.{get_or, length, length-set, set}
use lib.Seq.{drop-set-lt, get_or-set_other, get_or-set_same, set-get_or}
use borrow.Author.Tests.{eqb-false, eqb-true, le-leb, leb-true}
use Rattle.layout.specs.Result.{Each, ◌>>=◌, done, must}
use Rattle.layout.specs.Octets.{words_of}
use Rattle.layout.specs.Lists.{NameList}
use Rattle.layout.specs.Book.{Book}
use Rattle.layout.specs.BookRules.{ContentsRow, body_of, book_of, check_contents, check_templates, contents_end}
use Rattle.layout.specs.BookRules.{contents_size, head_good, head_size, list_rows, lists_of, name_list_of, parse_bodies}
use Rattle.layout.specs.BookRules.{parse_contents, template_rows, tree_of, word}
use Rattle.layout.specs.Demands.{other_order, reordered}
use Rattle.layout.proofs.Results.{and_left, and_right, bind_done, inv_bind, inv_both, inv_must, same_then}
use Rattle.layout.specs.declared.Reason.TheVariants.{BookHead}

-- An octet of the word i is set.
words_set : (s : List ℕ) (i x : ℕ) → i < length (words_of s)
    → words_of (set s (i + i) x) ≡ set (words_of s) i (x + 256 * get_or s (suc (i + i)) 0)
unfolding words_of
words_set [] i x h = absurd (omega arith)
words_set (a ∷ []) i x h = absurd (omega arith)
words_set (a ∷ b ∷ s) zero x h = refl
words_set (a ∷ b ∷ s) (suc i) x h =
    let two : suc i + suc i ≡ suc (suc (i + i)) = omega arith in
    rw two (ap (λ (w : List ℕ). (a + 256 * b) ∷ w) (words_set s i x (omega arith)))

-- What rule 2 says of the order word, and that it is there.
head_order : (b : List ℕ) → head_good b ≡ true → (leb (word b 5) 1 ≡ true) × (5 < length b)
head_order b g =
    let rest = and_right _ _ (and_right _ _ (and_right _ _ (and_right _ _ (and_right _ _ g)))) in
    let whole = and_left _ _ (and_right _ _ rest) in
    (and_left _ _ rest, omega (arith, leb-true (head_size + contents_size b) (length b) whole))

-- ---- words b with x as word 5, beside b

module _ (b : List ℕ) (x : ℕ) where
  abbrev b' : List ℕ
  b' = set b 5 x

  other_word : (i : ℕ) → eqb i 5 ≡ false → word b' i ≡ word b i
  other_word i h = get_or-set_other b 5 i x 0 (eqb-false i 5 h)

  head_same : x ≤ 1 → head_good b ≡ true → head_good b' ≡ head_good b
  head_same few g =
      let h = head_order b g in
      let order : leb (word b' 5) 1 ≡ leb (word b 5) 1 =
      ap (λ (n : ℕ). leb n 1) (get_or-set_same b 5 x 0 h.1) ∙ le-leb x 1 few ∙ sym h.0 in
      rw (
        other_word 3 refl,
        other_word 0 refl,
        other_word 1 refl,
        other_word 2 refl,
        other_word 4 refl,
        other_word 6 refl,
        order,
        length-set b 5 x,
      ) refl

  -- The contents lie after the head ..
  rows_same : (n w : ℕ) → 5 < w → parse_contents b' n w ≡ parse_contents b n w
  unfolding parse_contents
  rows_same zero w h = refl
  rows_same (suc n) w h =
      let later : (i : ℕ) → w ≤ i → word b' i ≡ word b i = λ i q. get_or-set_other b 5 i x 0 (λ e. omega arith) in
      rw (
        later w (omega arith),
        later (w + 1) (omega arith),
        later (w + 2) (omega arith),
        rows_same n (w + 3) (omega arith),
      ) refl

  template_rows_lem : template_rows b' ≡ template_rows b
  template_rows_lem = rw (other_word 2 refl) (rows_same (word b 2) head_size (omega arith))

  list_rows_lem : list_rows b' ≡ list_rows b
  list_rows_lem = rw (other_word 2 refl, other_word 4 refl) (rows_same (word b 4) (head_size + 3 * word b 2) (omega arith))

  contents_same : check_contents b' ≡ check_contents b
  unfolding check_contents
  contents_same = rw (template_rows_lem, list_rows_lem, other_word 2 refl, other_word 4 refl, length-set b 5 x) refl

  -- .. and so do the bodies.
  abbrev SameBodies : List ContentsRow → Type 0
  SameBodies rows = Each (λ r. body_of b' r ≡ body_of b r) rows

  same_bodies : (low at e : ℕ) (rows : List ContentsRow) → 5 < at → contents_end low at rows ≡ done e
      → (5 < e) × SameBodies rows
  unfolding contents_end Each
  same_bodies low at e [] h c = (let q : at ≡ e = cc in omega arith, tt)
  same_bodies low at e (r ∷ rs) h c =
      let p = inv_bind _ _ _ c in
      let first = eqb-true r.first at (and_right _ _ (and_right _ _ (inv_must _ _ _ _ p.first))) in
      let rest = same_bodies (suc r.id) (at + r.words) e rs (omega arith) p.next in
      (rest.0, (rw (drop-set-lt r.first b 5 x (omega (arith, first))) refl, rest.1))

  lists_same : (rows : List ContentsRow) → SameBodies rows → map (name_list_of b') rows ≡ map (name_list_of b) rows
  unfolding Each
  lists_same [] h = refl
  lists_same (r ∷ rs) h = rw (h.0, lists_same rs h.1) refl

  bodies_same : (ls : List NameList) (t : ℕ) (rows : List ContentsRow) → SameBodies rows
      → parse_bodies ls b' t rows ≡ parse_bodies ls b t rows
  unfolding Each parse_bodies
  bodies_same ls t [] h = refl
  bodies_same ls t (r ∷ rs) h = rw (h.0, bodies_same ls (suc t) rs h.1) refl

  after_contents : (u : Unit {0}) → check_contents b ≡ done u
      → (lists_of b' ≡ lists_of b)
      × (parse_bodies (lists_of b) b' 0 (template_rows b') ≡ parse_bodies (lists_of b) b 0 (template_rows b))
  unfolding check_contents
  after_contents u c =
      let p = inv_bind _ _ _ c in
      let q = inv_bind _ _ _ p.next in
      let ts = same_bodies 0 (head_size + contents_size b) p.value (template_rows b) (omega arith) p.first in
      let ls = same_bodies 0 p.value q.value (list_rows b) ts.0 q.first in (
        ap (map (name_list_of b')) list_rows_lem ∙ lists_same (list_rows b) ls.1,
        ap (parse_bodies (lists_of b) b' 0) template_rows_lem ∙ bodies_same (lists_of b) 0 (template_rows b) ts.1,
      )

-- ---- the book

exchanged : (n : ℕ) → n ≤ 1 → eqb (1 - n) 1 ≡ not (eqb n 1)
exchanged zero h = refl
exchanged (suc zero) h = refl
exchanged (suc (suc n)) h = absurd (omega arith)

-- s' has the words of s but for word 5, where 0 and 1 are exchanged.
tree_same : (s s' : List ℕ) → let w = words_of s in words_of s' ≡ set w 5 (1 - word w 5) → length s' ≡ length s
    → head_good w ≡ true
    → tree_of s' ≡ (tree_of s >>= λ b. done (other_order b))
unfolding tree_of
tree_same s s' is long head =
    let w = words_of s in
    let x = 1 - word w 5 in
    let h = head_order w head in
    rw (is, long)
    (same_then _ _ _ _ refl λ _ _.
    same_then _ _ _ _ (ap (λ t. must t BookHead 0) (head_same w x (omega arith) head)) λ _ _.
    same_then _ _ _ _ (contents_same w x) λ u c.
    rw (after_contents w x u c).0
    (same_then _ _ _ _ (after_contents w x u c).1 λ ts _.
    same_then _ _ _ _ (rw (other_word w x 2 refl) refl) λ _ _.
    rw (
      other_word w x 0 refl,
      other_word w x 1 refl,
      other_word w x 6 refl,
      get_or-set_same w 5 x 0 h.1,
      exchanged (word w 5) (leb-true (word w 5) 1 h.0),
    ) (sym (bind_done _ _))))

-- The order word is its first octet.
order_set : (s : List ℕ) → let w = words_of s in head_good w ≡ true → words_of (reordered s) ≡ set w 5 (1 - word w 5)
order_set s head =
    let w = words_of s in
    let h = head_order w head in
    let first = get_or s 10 0 in
    let second = get_or s 11 0 in
    let put : (y : ℕ) → words_of (set s 10 y) ≡ set w 5 (y + 256 * second) = λ y. words_set s 5 y h.1 in
    let is : word w 5 ≡ first + 256 * second =
    ap (λ (l : List ℕ). word (words_of l) 5) (sym (set-get_or s 10 0)) ∙ ap (λ (l : List ℕ). word l 5) (put first)
    ∙ get_or-set_same w 5 (first + 256 * second) 0 h.1 in
    put (1 - first) ∙ ap (set w 5) (omega (arith, is, leb-true (word w 5) 1 h.0))

-- The order has no part in 5, 6 and 7.
pub other_book : (book : List ℕ) (b : Book) → book_of book ≡ done b → book_of (reordered book) ≡ done (other_order b)
unfolding book_of tree_of check_templates
other_book s b e =
    let p = inv_both _ _ _ _ e in
    let head = inv_must _ _ _ _ (inv_bind _ _ _ (inv_bind _ _ _ p.first).next).first in
    let t = tree_same s (reordered s) (order_set s head) (length-set s 10 _) head in
    rw (t, p.first, bind_done, bind_done, p.second, bind_done, p.is) refl
