-- The lists of a book one after the other: how many numbers they are, and where each stands among the prepared numbers.
use Rattle.std.proofs.Common.{◌≡◌, ℕ, zero, suc, ◌+◌, ◌-◌, ◌*◌, ◌/◌, ◌<◌, ◌≤◌, Bool, true, false, eqb, List, ◌∷◌, ◌++◌, add-one, append-nil, append_assoc, suc-add, sym, zero-add, map, length, take, drop, set, refl, ap, ◌∙◌, arith, leb-true}
use native.Mathlib.Numerals.{towards_suc}
use lib.Seq.{sets}
use Rattle.layout.specs.Result.{Each, when◌then◌else◌}
use Rattle.layout.specs.Octets.{words_of}
use Rattle.layout.specs.Lists.{NameList}
use Rattle.layout.specs.BookRules.{climbing, head_size, list_good, name_list_of, parse_contents, word}
use Rattle.layout.proofs.Results.{and_left, and_right}
use Rattle.book.specs.Rows.{IsListRow, list_at, listed_among, listed_of}
use Rattle.std.specs.Prelude.{None, Some}
use Rattle.book.proofs.Words.{length_words}
use Rattle.book.proofs.NameLists.{kind_is, numbers_are, numbers_length, numbers_step}
use Rattle.book.proofs.Rows.{list_last, list_lies, list_next, list_row}
use Rattle.prepared.specs.Numbers.{list_numbers, list_size, lists_numbers, lists_size, mask_of, place_of}
use Rattle.prepare.specs.Names.{GoodLists, IsGoodList, IsPlaced, from_in, lists_in, place_in, start_of}
use Rattle.prepare.specs.Positions.{words_from}
use Rattle.octets.proofs.Joined.{sets_append}
use Rattle.prepared.proofs.Prepared.{length_lists}

-- ---- a good list, whose row is at word w

words_taken : (s : List ℕ) (n w : ℕ) → w + n ≤ length (words_of s) → words_from s n w ≡ take n (drop w (words_of s))
words_taken s zero w h = refl
words_taken s (suc n) w h =
    let q : suc n - 1 ≡ n = omega arith in
    let r : w + 1 ≡ suc w = omega arith in
    rw (numbers_step (words_of s) (suc n) w (omega arith) h, q, r) (ap (λ (l : List ℕ). word (words_of s) w ∷ l)
    (words_taken s n (suc w) (omega arith)))

pub good_list : (s : List ℕ) (w : ℕ) → IsListRow s w → list_good (list_at (words_of s) w) ≡ true → IsGoodList s w
good_list s w row good =
    record {
      row = row;
      good = good;
      some_words = omega (
        arith,
        numbers_length (words_of s) w (omega (arith, row.lies, length_words s)),
        leb-true 1 (length (list_at (words_of s) w).numbers) (and_left _ _ (and_right _ _ good)),
      );
    }

module _ (s : List ℕ) (w : ℕ) (list : IsGoodList s w) where
  abbrev words : List ℕ
  words = words_of s

  abbrev first : ℕ
  first = word words (w + 1)

  abbrev size : ℕ
  size = word words (w + 2)

  lies : first + size ≤ length words
  lies = omega (arith, list.row.lies, length_words s)

  -- It has three numbers more than its body has words.
  pub list_size_lem : list_size (list_at words w) ≡ 3 + size
  list_size_lem = omega (arith, numbers_length words w lies, list.some_words)

  pub numbers_rise : climbing 0 (take (size - 1) (drop (first + 1) words)) ≡ true
  numbers_rise = rw (numbers_are words w) at (and_right _ _ (and_right _ _ (and_right _ _ list.good)))

  -- Four numbers are stored, and then its own.
  pub list_stored : (f id kind mask n at : ℕ) (d d' : List ℕ) → f ≡ first → id ≡ word words w → kind ≡ word words f
      → mask ≡ mask_of (take n (drop (f + 1) words)) → n ≡ size - 1
      → d' ≡ sets (set (set (set (set d at id) (at + 1) kind) (at + 2) mask) (at + 3) n) (at + 4)
      (words_from s n (f + 1))
      → d' ≡ sets d at (list_numbers (list_at words w))
  list_stored f id kind mask n at d d' ef ei ek em en stored =
      stored ∙ rw (
        ei,
        ek,
        em,
        en,
        ef,
        words_taken s (size - 1) (first + 1) (omega (arith, lies, list.some_words)),
        kind_is words w (λ h. omega (arith, list.some_words)),
        numbers_length words w lies,
        numbers_are words w,
      ) (simp towards_suc)

-- ---- n rows from word w on

module _ (b : List ℕ) where
  abbrev lists : ℕ → ℕ → List NameList
  lists n w = map (name_list_of b) (parse_contents b n w)

  -- The first i lists, and k more.
  size_join : (k i w : ℕ) → lists_size (lists (i + k) w) ≡ lists_size (lists i w) + lists_size (lists k (w + 3 * i))
  unfolding lists_size parse_contents
  size_join k zero w = let q : w + 3 * 0 ≡ w = omega arith in rw (q, zero-add k) (omega arith)
  size_join k (suc i) w =
      let q : w + 3 * suc i ≡ w + 3 + 3 * i = omega arith in rw (q, suc-add i k) (omega (arith, size_join k i (w + 3)))

  numbers_last : (i w : ℕ) → lists_numbers (lists (suc i) w)
      ≡ lists_numbers (lists i w) ++ list_numbers (list_at b (w + 3 * i))
  unfolding lists_numbers parse_contents
  numbers_last zero w = let q : w + 3 * 0 ≡ w = omega arith in rw q (append-nil (list_numbers (list_at b w)))
  numbers_last (suc i) w =
      let q : w + 3 * suc i ≡ w + 3 + 3 * i = omega arith in
      rw (q, numbers_last i (w + 3)) (sym (append_assoc (list_numbers (list_at b w)) _ _))

  each_at : (n w : ℕ) → Each (λ l. list_good l ≡ true) (lists n w) → (i : ℕ) → i < n
      → list_good (list_at b (w + 3 * i)) ≡ true
  unfolding Each parse_contents
  each_at zero w each i h = absurd (omega arith)
  each_at (suc n) w each zero h = let q : w + 3 * 0 ≡ w = omega arith in rw q each.0
  each_at (suc n) w each (suc i) h =
      let q : w + 3 * suc i ≡ w + 3 + 3 * i = omega arith in rw q (each_at n (w + 3) each.1 i (omega arith))

  -- The list with the number stands behind those before it, the first of these standing at `at`.
  module _ (id : ℕ) where
    found_among : (n w k i at : ℕ) → listed_among id (parse_contents b n w) k ≡ Some i
        → (j : ℕ) × (i ≡ k + j) × (j < n) × (place_of (suc id) (lists n w) at ≡ at + lists_size (lists j w))
    unfolding listed_among parse_contents place_of lists_size when◌then◌else◌
    found_among zero w k i at q = cc
    found_among (suc n) w k i at q =
        go (found_among n (w + 3) (suc k) i (at + list_size (list_at b w))) (eqb (word b w) id) refl
      where
        go : (listed_among id (parse_contents b n (w + 3)) (suc k) ≡ Some i
            → (j : ℕ) × (i ≡ suc k + j) × (j < n)
            × (place_of (suc id) (lists n (w + 3)) (at + list_size (list_at b w))
            ≡ at + list_size (list_at b w) + lists_size (lists j (w + 3))))
            → (t : Bool) → eqb (word b w) id ≡ t
            → (j : ℕ) × (i ≡ k + j) × (j < suc n) × (place_of (suc id) (lists (suc n) w) at ≡ at + lists_size (lists j w))
        go others true t = let here : k ≡ i = (let f = rw t at q in cc) in (0, omega arith, omega arith, rw t (omega arith))
        go others false t =
            let f = others (rw t at q) in (suc f.0, omega (arith, f.1), omega (arith, f.2), rw t (omega (arith, f.3)))

    missing_among : (n w k at : ℕ) → listed_among id (parse_contents b n w) k ≡ None
        → place_of (suc id) (lists n w) at ≡ 0
    unfolding listed_among parse_contents place_of when◌then◌else◌
    missing_among zero w k at q = refl
    missing_among (suc n) w k at q =
        go (missing_among n (w + 3) (suc k) (at + list_size (list_at b w))) (eqb (word b w) id) refl
      where
        go : (listed_among id (parse_contents b n (w + 3)) (suc k) ≡ None
            → place_of (suc id) (lists n (w + 3)) (at + list_size (list_at b w)) ≡ 0)
            → (t : Bool) → eqb (word b w) id ≡ t → place_of (suc id) (lists (suc n) w) at ≡ 0
        go others true t = let f = rw t at q in cc
        go others false t = rw t (others (rw t at q))

-- ---- the book's lists, of which list i is next

module _ (s : List ℕ) (good : GoodLists s) where
  abbrev b : List ℕ
  b = words_of s

  abbrev many : ℕ
  many = word b 4

  abbrev rows : ℕ
  rows = head_size + 3 * word b 2

  -- How many numbers the first n are.
  abbrev size_of : ℕ → ℕ
  size_of n = lists_size (lists b n rows)

  size_none : size_of 0 ≡ 0
  unfolding lists_size parse_contents
  size_none = refl

  module _ (i : ℕ) (next : i < many) where
    abbrev row : ℕ
    row = rows + 3 * i

    row_is : list_row b i ≡ row
    row_is = omega arith

    pub next_list : IsGoodList s row
    next_list = good_list s row (rw row_is at (list_lies s good.has i next)) (each_at b _ _ good.good i next)

    pub next_size : size_of (i + 1) ≡ size_of i + list_size (list_at b row)
    unfolding lists_size parse_contents
    next_size = rw (size_join b 1 i) (omega arith)

    pub next_fits : size_of i + 3 + word b (row + 2) ≤ lists_size (lists_in s)
    next_fits =
        let k = many - (i + 1) in
        let q : i + 1 + k ≡ many = omega arith in
        omega (arith, rw q at (size_join b k (i + 1) rows), next_size, list_size_lem s row next_list)

    pub next_stored : (d : List ℕ) (start : ℕ) → let stored : ℕ → List ℕ = λ n. lists_numbers (lists b n rows) in
        sets (sets d start (stored i)) (start + size_of i) (list_numbers (list_at b row)) ≡ sets d start (stored (i + 1))
    next_stored d start = rw (add-one i, numbers_last b i, sets_append d start, length_lists) refl

  -- Lists lie back to back, and each has three numbers more than words.
  starts : (i : ℕ) → i < many → (size_of i + start_of s 0 ≡ 3 * i + start_of s i) × (start_of s 0 ≤ start_of s i)
  starts zero h = (omega (arith, size_none), omega arith)
  starts (suc i) h =
      let k : i < many = omega arith in
      let before = starts i k in
      let follows = rw (row_is i k, row_is (suc i) h) at (list_next s good.has i h) in
      let size = list_size_lem s (row i k) (next_list i k) in
      (omega (arith, before.0, follows, size, rw (add-one i) at (next_size i k)), omega (arith, before.1, follows))

  pub no_lists : many ≡ 0 → lists_size (lists_in s) ≡ 0
  no_lists h = rw h size_none

  pub all_lists : 0 < many → lists_size (lists_in s) + word b (rows + 1) ≡ 3 * many + length s / 2
  all_lists h =
      let i = many - 1 in
      let k : i < many = omega arith in
      let q : i + 1 ≡ many = omega arith in
      let o : rows + 3 * 0 ≡ rows = omega arith in
      let last = rw (row_is i k, length_words s) at (list_last s good.has i (omega arith)) in
      omega (arith, rw o at (starts i k).0, last, list_size_lem s (row i k) (next_list i k), rw q at (next_size i k))

  pub first_lies : 0 < many → word b (rows + 1) ≤ length s / 2
  first_lies h = let q : rows + 3 * 0 ≡ rows = omega arith in omega (arith, rw q at (next_list 0 h).row.lies)

  -- The place of the list that the position i leads to.
  pub record PlacedAt (list i : ℕ) : Type 0 where
    pub here : IsPlaced s i
    pub place : place_in s list + start_of s 0 ≡ from_in s + 3 * i + start_of s i

  pub placed_at : (list i : ℕ) → 0 < list → listed_of b (list - 1) ≡ Some i → PlacedAt list i
  placed_at list i h q =
      let f = found_among b (list - 1) many rows 0 i (from_in s) q in
      let j : i ≡ f.0 = omega (arith, f.1) in
      let n : suc (list - 1) ≡ list = omega arith in
      let at = starts f.0 f.2 in
      record {
        here = record { below = omega (arith, f.2); rises = rw j at.1 };
        place = rw j (omega (arith, rw n at f.3, at.0));
      }

  pub placed_nowhere : (list : ℕ) → 0 < list → listed_of b (list - 1) ≡ None → place_in s list ≡ 0
  placed_nowhere list h q =
      let n : suc (list - 1) ≡ list = omega arith in
      rw n at (missing_among b (list - 1) many rows 0 (from_in s) q)

pub no_list_lem : (s : List ℕ) → place_in s 0 ≡ 0
unfolding place_of
no_list_lem s = refl
