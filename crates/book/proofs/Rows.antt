-- The rows of a book's contents: where they and their bodies lie, and which list has a number.
use mathlib.Core.Path.{◌∙◌, ◌≡◌, ap, refl, sym}
use mathlib.Core.Bool.{Bool, false, true}
use mathlib.Core.List.{List, [], ◌∷◌, map}
use Prim.Native.Nat.{◌*◌, ◌+◌, ◌-◌, ◌/◌, ◌<◌, ◌≤◌, suc, zero, ℕ}
use native.Mathlib.Omega.{arith}
use lib.Dec.{eqb, leb, ltb}
use lib.ListN.{length}
use borrow.Author.Tests.{eqb-true, leb-true}
use Rattle.layout.specs.Result.{◌>>=◌, ◌and◌, done, when◌then◌else◌, must, refused}
use Rattle.layout.specs.Octets.{words_of}
use Rattle.layout.specs.Lists.{Names, find_names, missing, names_of}
use Rattle.layout.specs.BookRules.{ContentsRow, check_contents, contents_end, contents_size, head_good, head_size, list_rows}
use Rattle.layout.specs.BookRules.{lists_of, name_list_of, parse_contents, template_rows, word}
use Rattle.layout.specs.Message.{dimension_size}
use Rattle.layout.proofs.Results.{and_left, and_right, done_inj, inv_bind, inv_must}
use Rattle.bisect.proofs.Rising.{IsPlace}
use Rattle.book.specs.Rows.{BookHead, HasLists, IsListRow, counted_in, list_at, listed_among, listed_of}
use Rattle.book.proofs.Tests.{tests}
use Rattle.book.proofs.Words.{length_words, word_at, words_between}
use Rattle.std.specs.Prelude.{None, Option, Some}
use Rattle.layout.specs.declared.Reason.TheVariants.{BookContents}

-- What a good head says of the contents: the templates are few, and the rows lie in the book.
pub record Head (s : List ℕ) : Type 0 where
  pub few : word (words_of s) 2 ≤ 64
  pub fits : head_size + contents_size (words_of s) ≤ length s / 2

pub head_says : (s : List ℕ) → BookHead s → Head s
head_says s h =
    record { few = grind (arith, tests, h.good); fits = grind (arith, tests, length_words, h.good) }

pub head_fits : (s : List ℕ) → BookHead s → head_size + contents_size (words_of s) ≤ length s / 2
head_fits s h = (head_says s h).fits

pub lists_fit : (s : List ℕ) → HasLists s → head_size + contents_size (words_of s) ≤ length s / 2
lists_fit s h = head_fits s h.head

-- What `grind` is to know at every goal of the crate.
pub ruleset known = (tests, length_words, head_fits, lists_fit)

pub ruleset parts = (known, word_at, words_between)

shifted : (w i : ℕ) → w + 3 * suc i ≡ w + 3 + 3 * i
shifted w i = omega arith

next_row : (w k : ℕ) → w + 3 * k + 3 ≡ w + 3 * suc k
next_row w k = omega arith

unshifted : (w : ℕ) → w + 3 * 0 ≡ w
unshifted w = omega arith

-- Of n rows from word `from` on, those from row i on.
abbrev pub rows_left : List ℕ → ℕ → ℕ → ℕ → List ContentsRow
rows_left b from n i = parse_contents b (n - i) (from + 3 * i)

module _ (b : List ℕ) (from n i : ℕ) where
  pub rows_more : i < n
      → rows_left b from n i ≡ (let w = from + 3 * i in
      record { id = word b w; first = word b (w + 1); words = word b (w + 2) }) ∷ rows_left b from n (i + 1)
  unfolding parse_contents
  rows_more h =
      let q : n - i ≡ suc (n - (i + 1)) = omega arith in
      let r : from + 3 * (i + 1) ≡ from + 3 * i + 3 = omega arith in
      rw (q, r) refl

  pub rows_none : n ≤ i → rows_left b from n i ≡ []
  unfolding parse_contents
  rows_none h = let q : n - i ≡ 0 = omega arith in rw q refl

  module _ (low at : ℕ) where
    pub contents_stop : n ≤ i → contents_end low at (rows_left b from n i) ≡ done at
    unfolding contents_end
    contents_stop h = rw (rows_none h) refl

    module _ (more : i < n) where
      abbrev w : ℕ
      w = from + 3 * i

      abbrev row_good : Bool
      row_good = leb low (word b w) and ltb (word b w) 65535 and eqb (word b (w + 1)) at

      pub contents_next : row_good ≡ true
          → contents_end low at (rows_left b from n i)
          ≡ contents_end (word b w + 1) (at + word b (w + 2)) (rows_left b from n (i + 1))
      unfolding contents_end must ◌>>=◌
      contents_next e =
          let q : word b w + 1 ≡ suc (word b w) = omega arith in
          rw (rows_more more, e, q) refl

      pub contents_bad : row_good ≡ false → contents_end low at (rows_left b from n i) ≡ refused BookContents 0
      unfolding contents_end must ◌>>=◌
      contents_bad e = rw (rows_more more, e) refl

pub ruleset contents_laws = (known, contents_stop, contents_next, contents_bad)

-- ---- n rows from word w on that keep rule 3: their bodies lie from word `at` to word e

module _ (b : List ℕ) (e : ℕ) where
  abbrev Kept : ℕ → ℕ → ℕ → ℕ → Type 0
  Kept n w low at = contents_end low at (parse_contents b n w) ≡ done e

  -- What this says of the first of them, and of the others.
  record Row (n w low at : ℕ) : Type 0 where
    least : low ≤ word b w
    first : word b (w + 1) ≡ at
    rest : Kept n (w + 3) (suc (word b w)) (at + word b (w + 2))

  first_row : (n w low at : ℕ) → Kept (suc n) w low at → Row n w low at
  unfolding contents_end parse_contents
  first_row n w low at k =
      let p = inv_bind _ _ _ k in
      let t = inv_must _ _ _ _ p.first in
      record {
        least = leb-true _ _ (and_left _ _ t);
        first = eqb-true _ _ (and_right _ _ (and_right _ _ t));
        rest = p.next;
      }

  no_rows : (w low at : ℕ) → Kept 0 w low at → at ≡ e
  unfolding contents_end parse_contents
  no_rows w low at k = done_inj k

  rows_start : (n w low at : ℕ) → Kept n w low at → at ≤ e
  rows_start zero w low at k = omega (arith, no_rows w low at k)
  rows_start (suc n) w low at k = omega (arith, rows_start n _ _ _ (first_row n w low at k).rest)

  row_lies : (n w low at : ℕ) → Kept n w low at → (i : ℕ) → i < n
      → word b (w + 3 * i + 1) + word b (w + 3 * i + 2) ≤ e
  row_lies zero w low at k i h = absurd (omega arith)
  row_lies (suc n) w low at k zero h =
      let r = first_row n w low at k in
      rw (unshifted w) (omega (arith, r.first, rows_start n _ _ _ r.rest))
  row_lies (suc n) w low at k (suc i) h =
      rw (shifted w i) (row_lies n _ _ _ (first_row n w low at k).rest i (omega arith))

  row_least : (n w low at : ℕ) → Kept n w low at → (i : ℕ) → i < n → low ≤ word b (w + 3 * i)
  row_least zero w low at k i h = absurd (omega arith)
  row_least (suc n) w low at k zero h = rw (unshifted w) (first_row n w low at k).least
  row_least (suc n) w low at k (suc i) h =
      let r = first_row n w low at k in
      rw (shifted w i) (omega (arith, r.least, row_least n _ _ _ r.rest i (omega arith)))

  rows_rise : (n w low at : ℕ) → Kept n w low at → (i j : ℕ) → i < j → j < n
      → word b (w + 3 * i) < word b (w + 3 * j)
  rows_rise n w low at k i zero l h = absurd (omega arith)
  rows_rise zero w low at k i (suc j) l h = absurd (omega arith)
  rows_rise (suc n) w low at k zero (suc j) l h =
      rw (unshifted w, shifted w j) (row_least n _ _ _ (first_row n w low at k).rest j (omega arith))
  rows_rise (suc n) w low at k (suc i) (suc j) l h =
      rw (shifted w i, shifted w j)
      (rows_rise n _ _ _ (first_row n w low at k).rest i j (omega arith) (omega arith))

  row_next : (n w low at : ℕ) → Kept n w low at → (i : ℕ) → suc i < n
      → word b (w + 3 * suc i + 1) ≡ word b (w + 3 * i + 1) + word b (w + 3 * i + 2)
  row_next zero w low at k i h = absurd (omega arith)
  row_next (suc n) w low at k (suc i) h =
      rw (shifted w (suc i), shifted w i)
      (row_next n _ _ _ (first_row n w low at k).rest i (omega arith))
  row_next (suc zero) w low at k zero h = absurd (omega arith)
  row_next (suc (suc n)) w low at k zero h =
      let r = first_row (suc n) w low at k in
      let q = first_row n _ _ _ r.rest in
      rw (shifted w 0, unshifted (w + 3), unshifted w) (omega (arith, r.first, q.first))

  row_last : (n w low at : ℕ) → Kept n w low at → (i : ℕ) → suc i ≡ n
      → word b (w + 3 * i + 1) + word b (w + 3 * i + 2) ≡ e
  row_last zero w low at k i h = absurd (omega arith)
  row_last (suc n) w low at k (suc i) h =
      rw (shifted w i) (row_last n _ _ _ (first_row n w low at k).rest i (omega arith))
  row_last (suc zero) w low at k zero h =
      let r = first_row 0 w low at k in
      rw (unshifted w) (omega (arith, r.first, no_rows _ _ _ r.rest))
  row_last (suc (suc n)) w low at k zero h = absurd (omega arith)

-- ---- the rows of a book

-- A dimension has as many numbers as the head's last word says.
pub dimension_is : (s : List ℕ) → BookHead s → 2 * word (words_of s) 6 ≡ dimension_size (counted_in s)
dimension_is s h = grind (arith, tests, h.good)

-- The word before it is 0 or 1.
pub order_few : (s : List ℕ) → BookHead s → word (words_of s) 5 ≤ 1
order_few s h = grind (arith, tests, h.good)

-- A book that is too short for a head has none that is good.
pub head_short : (b : List ℕ) → length b < head_size → head_good b ≡ false
head_short b h = grind (arith, tests)

pub ruleset head_laws = (known, head_short, dimension_is)

-- Where the row of list i stands.
abbrev pub list_row : List ℕ → ℕ → ℕ
list_row b i = head_size + 3 * (word b 2 + i)

pub list_row_lem : (n i : ℕ) → head_size + 3 * (n + i) ≡ head_size + 3 * n + 3 * i
list_row_lem n i = omega arith

module _ (s : List ℕ) (has : HasLists s) where
  abbrev b : List ℕ
  b = words_of s

  -- The templates' bodies end where those of the lists start, and these with the book.
  record Bodies : Type 0 where
    end : ℕ
    templates : contents_end 0 (head_size + contents_size b) (template_rows b) ≡ done end
    lists : contents_end 0 end (list_rows b) ≡ done (length b)

  bodies : Bodies
  unfolding check_contents
  bodies =
      let p = inv_bind _ _ _ has.kept in
      let q = inv_bind _ _ _ p.next in
      let e : q.value ≡ length b = eqb-true _ _ (inv_must _ _ _ _ q.next) in
      record { end = p.value; templates = p.first; lists = q.first ∙ ap done e }

  -- A template's body lies in the book.
  pub body_lies : (t : ℕ) → t < word b 2
      → word b (head_size + 3 * t + 1) + word b (head_size + 3 * t + 2) ≤ length s / 2
  body_lies t h =
      omega (
        arith,
        length_words s,
        rows_start b (length b) _ _ _ _ bodies.lists,
        row_lies b _ _ _ _ _
            bodies.templates t h,
      )

  pub template_lies : (t : ℕ) → t < word b 2 → IsListRow s (head_size + 3 * t)
  template_lies t h = record { fits = omega (arith, (head_says s has.head).fits); lies = body_lies t h }

  -- So do a list's row and its body.
  pub list_lies : (i : ℕ) → i < word b 4 → IsListRow s (list_row b i)
  list_lies i h =
      record {
        fits = omega (arith, (head_says s has.head).fits);
        lies = rw (list_row_lem (word b 2) i, ← (length_words s)) (row_lies b _ _ _ _ _ bodies.lists i h);
      }

  -- Numbers rise along the lists, and their bodies lie back to back, the last one's end being the book's.
  pub list_rises : (i j : ℕ) → i < j → j < word b 4 → word b (list_row b i) < word b (list_row b j)
  list_rises i j l h =
      rw (list_row_lem (word b 2) i, list_row_lem (word b 2) j) (rows_rise b _ _ _ _ _ bodies.lists i j l h)

  pub list_next : (i : ℕ) → suc i < word b 4
      → word b (list_row b (suc i) + 1) ≡ word b (list_row b i + 1) + word b (list_row b i + 2)
  list_next i h =
      rw (list_row_lem (word b 2) i, list_row_lem (word b 2) (suc i)) (row_next b _ _ _ _ _ bodies.lists i h)

  pub list_last : (i : ℕ) → suc i ≡ word b 4 → word b (list_row b i + 1) + word b (list_row b i + 2) ≡ length b
  list_last i h = rw (list_row_lem (word b 2) i) (row_last b _ _ _ _ _ bodies.lists i h)

-- ---- the lists of rows

pub lists_length : (b : List ℕ) (n w : ℕ) → length (map (name_list_of b) (parse_contents b n w)) ≡ n
unfolding parse_contents
lists_length b zero w = refl
lists_length b (suc n) w = ap suc (lists_length b n (w + 3))

module _ (b : List ℕ) (id w : ℕ) where
  -- What a field has that names the list of a row, or none, of those from word w on.
  leads : Option ℕ → Names
  leads None = record { kind = missing; numbers = [] }
  leads (Some i) = names_of (list_at b (w + 3 * i))

  -- The list with the number among n rows from row k on.
  listed_from : ℕ → ℕ → Option ℕ
  listed_from n k = listed_among id (parse_contents b n (w + 3 * k)) k

  none_left : (k : ℕ) → listed_from 0 k ≡ None
  unfolding listed_from listed_among parse_contents
  none_left k = refl

  one_more : (n k : ℕ) → listed_from (suc n) k
      ≡ (when eqb (word b (w + 3 * k)) id then Some k else listed_from n (suc k))
  unfolding listed_from listed_among parse_contents
  one_more n k = rw (next_row w k) refl

  leads_from : (n k : ℕ) → find_names (suc id) (map (name_list_of b) (parse_contents b n (w + 3 * k)))
      ≡ leads (listed_from n k)
  unfolding leads find_names parse_contents
  leads_from zero k = rw (none_left k) refl
  leads_from (suc n) k = rw (one_more n k) (go (eqb (word b (w + 3 * k)) id) (leads_from n (suc k)))
    where
      go : (t : Bool) → find_names (suc id) (map (name_list_of b) (parse_contents b n (w + 3 * suc k)))
          ≡ leads (listed_from n (suc k))
          → (when t then names_of (list_at b (w + 3 * k)) else
          find_names (suc id) (map (name_list_of b) (parse_contents b n (w + 3 * k + 3))))
          ≡ leads (when t then Some k else listed_from n (suc k))
      go true others = unfold when◌then◌else◌ in refl
      go false others = unfold when◌then◌else◌ in rw (next_row w k) others

  below_from : (n k i : ℕ) → listed_from n k ≡ Some i → i < k + n
  below_from zero k i e = grind (arith, none_left k)
  below_from (suc n) k i e = grind (arith, tests, one_more n k, below_from n (suc k) i)

  -- Row i has another number.
  abbrev Other : ℕ → Type 0
  Other i = word b (w + 3 * i) ≡ id → ⊥

  at_from : (n k i : ℕ) → k ≤ i → i < k + n → ((j : ℕ) → j < i → Other j) → word b (w + 3 * i) ≡ id
      → listed_from n k ≡ Some i
  at_from zero k i l h others is = absurd (omega arith)
  at_from (suc n) k i l h others is = grind (arith, tests, one_more n k, at_from n (suc k) i, others k)

  missing_from : (n k : ℕ) → ((j : ℕ) → j < k + n → Other j) → listed_from n k ≡ None
  missing_from zero k others = none_left k
  missing_from (suc n) k others =
      let rest = missing_from n (suc k) (λ j l. others j (omega arith)) in
      grind (arith, tests, one_more n k, rest, others k)

-- The number of list i.
abbrev pub list_id : List ℕ → ℕ → ℕ
list_id b i = word b (list_row b i)

module _ (b : List ℕ) (id : ℕ) where
  abbrev lists_at : ℕ
  lists_at = head_size + 3 * word b 2

  listed_is : listed_of b id ≡ listed_from b id lists_at (word b 4) 0
  unfolding listed_from
  listed_is = rw (unshifted lists_at) refl

  names_listed : find_names (suc id) (lists_of b) ≡ leads b id lists_at (listed_of b id)
  names_listed = rw (listed_is, ← (leads_from b id lists_at (word b 4) 0), unshifted lists_at) refl

  -- A field that names a missing list has no names, and one that names a list has its names.
  pub not_listed : listed_of b id ≡ None → find_names (suc id) (lists_of b) ≡ record { kind = missing; numbers = [] }
  unfolding leads
  not_listed e = rw (names_listed, e) refl

  pub listed_at : (i : ℕ) → listed_of b id ≡ Some i
      → find_names (suc id) (lists_of b) ≡ names_of (list_at b (list_row b i))
  unfolding leads
  listed_at i e = rw (names_listed, e, list_row_lem (word b 2) i) refl

  pub listed_below : (i : ℕ) → listed_of b id ≡ Some i → i < word b 4
  listed_below i e = omega (arith, below_from b id lists_at (word b 4) 0 i (sym listed_is ∙ e))

  -- The list with this number is where a search finds it.
  pub listed_as : ((i j : ℕ) → i < j → j < word b 4 → list_id b i < list_id b j) → (r : Option ℕ)
      → IsPlace (list_id b) (word b 4) id r → r ≡ listed_of b id
  listed_as rising (Some i) (inside, is) =
      let others : (j : ℕ) → j < i → list_id b j ≡ id → ⊥ = λ j l o. omega (arith, rising j i l inside) in
      sym (listed_is ∙ at_from b id lists_at (word b 4) 0 i (omega arith) (omega arith)
      (λ j l o. others j l (rw (← (list_row_lem (word b 2) j)) at o))
      (rw (list_row_lem (word b 2) i) at is))
  listed_as rising None none =
      sym (listed_is ∙ missing_from b id lists_at (word b 4) 0
      (λ j l o. none j (omega arith) (rw (← (list_row_lem (word b 2) j)) at o)))
