-- A list's words, what its rule and a field's rule say of them, and the lists of a book one after the other.
use mathlib.Core.Path.{◌∙◌, ◌≡◌, ap, refl}
use mathlib.Core.Bool.{Bool, false, not, true}
use mathlib.Core.List.{List, [], ◌∷◌, map}
use Prim.Native.Nat.{◌+◌, ◌*◌, ◌-◌, ◌<◌, ◌≤◌, suc, zero, ℕ}
use native.Mathlib.Omega.{arith}
use lib.Dec.{eqb, leb, ltb}
use lib.ListN.{drop, length, length-drop, take}
use lib.Seq.{drop-cons, drop-drop, get_or-drop, get_or-take, length-take-le, take-nil}
use borrow.Author.Tests.{le-leb, lt-leb}
use Rattle.layout.specs.Result.{Result, ◌>>=◌, ◌and◌, done, when◌then◌else◌, must, refused}
use Rattle.layout.specs.Lists.{NameList, enumeration, find_names, names_of, set}
use Rattle.layout.specs.Book.{Field, is_array}
use Rattle.layout.specs.BookRules.{climbing, each_must, greatest, kind_good, list_good, name_list_of, names_good}
use Rattle.layout.specs.BookRules.{field_at, head_size, lists_of, word}
use Rattle.std.specs.Prelude.{None, Option, Some}
use Rattle.layout.specs.Octets.{words_of}
use Rattle.book.specs.Rows.{HasLists, IsListRow, list_at, list_fits, listed_of}
use Rattle.book.proofs.Rows.{known, list_lies, list_row, list_row_lem, listed_at, listed_below, not_listed, rows_left, rows_more, rows_none}
use Rattle.layout.proofs.TypeLaws.{width_few}
use Rattle.layout.specs.declared.Reason.TheVariants.{BookBlock}

-- ---- the list whose row is at word w

but_first : (n : ℕ) (l : List ℕ) → drop 1 (take n l) ≡ take (n - 1) (drop 1 l)
but_first zero l = refl
but_first (suc n) [] = rw (take-nil (suc n - 1)) refl
but_first (suc n) (a ∷ l) = let q : suc n - 1 ≡ n = omega arith in rw q refl

module _ (b : List ℕ) (w : ℕ) where
  abbrev first : ℕ
  first = word b (w + 1)

  abbrev n : ℕ
  n = word b (w + 2)

  pub kind_is : (n ≡ 0 → ⊥) → (list_at b w).kind ≡ word b first
  kind_is h =
      let q : first + 0 ≡ first = omega arith in
      get_or-take n (drop first b) 0 0 (omega arith) ∙ get_or-drop first b 0 0 ∙ ap (word b) q

  pub numbers_are : (list_at b w).numbers ≡ take (n - 1) (drop (first + 1) b)
  numbers_are = but_first n (drop first b) ∙ ap (take (n - 1)) (drop-drop 1 first b)

  pub none_greatest : n ≤ 1 → greatest (list_at b w).numbers ≡ 0
  none_greatest h =
      let q : n - 1 ≡ 0 = omega arith in
      rw (numbers_are, q) refl

  module _ (lies : first + n ≤ length b) where
    pub numbers_length : length (list_at b w).numbers ≡ n - 1
    numbers_length = rw numbers_are (length-take-le (n - 1) _ (simp length-drop (omega arith)))

    pub greatest_is : 1 < n → greatest (list_at b w).numbers ≡ word b (first + n - 1)
    greatest_is h =
        let q : first + 1 + (n - 1 - 1) ≡ first + n - 1 = omega arith in
        rw (numbers_length, numbers_are)
        (get_or-take (n - 1) _ (n - 1 - 1) 0 (omega arith) ∙ get_or-drop (first + 1) b _ 0 ∙ ap (word b) q)

    pub list_rule : list_good (list_at b w)
        ≡ ((leb 2 n and leb n 65) and ltb (list_at b w).kind 2 and climbing 0 (take (n - 1) (drop (first + 1) b)))
    list_rule = rw (numbers_length, numbers_are) (grind (arith, known))

pub ruleset list_laws = (known, none_greatest, greatest_is, list_rule, width_few)

-- Numbers that rise, one at a time: the `left` numbers from word w on.
pub numbers_step : (b : List ℕ) (left w : ℕ) → 0 < left → w + left ≤ length b
    → take left (drop w b) ≡ word b w ∷ take (left - 1) (drop (w + 1) b)
numbers_step b zero w h f = absurd (omega arith)
numbers_step b (suc left) w h f =
    let q : suc left - 1 ≡ left = omega arith in
    let r : w + 1 ≡ suc w = omega arith in
    rw (drop-cons b w 0 (omega arith), q, r) refl

-- Of the numbers up to word `end`, those from word w on.
abbrev pub numbers_left : List ℕ → ℕ → ℕ → List ℕ
numbers_left b end w = take (end - w) (drop w b)

pub climb_start : (b : List ℕ) (from n : ℕ) → numbers_left b (from + n) from ≡ take n (drop from b)
climb_start b from n = let q : from + n - from ≡ n = omega arith in rw q refl

module _ (b : List ℕ) (low end w : ℕ) where
  pub climb_end : end ≤ w → climbing low (numbers_left b end w) ≡ true
  unfolding climbing
  climb_end h = let q : end - w ≡ 0 = omega arith in rw q refl

  module _ (fits : end ≤ length b) (more : w < end) where
    numbers_more : numbers_left b end w ≡ word b w ∷ numbers_left b end (w + 1)
    numbers_more =
        let q : end - w - 1 ≡ end - (w + 1) = omega arith in
        rw q at (numbers_step b (end - w) w (omega arith) (omega arith))

    pub climb_next : low ≤ word b w
        → climbing low (numbers_left b end w) ≡ climbing (word b w + 1) (numbers_left b end (w + 1))
    unfolding climbing
    climb_next h =
        let q : word b w + 1 ≡ suc (word b w) = omega arith in
        rw (numbers_more, le-leb low (word b w) h, q) (unfold ◌and◌ in refl)

    pub climb_fall : word b w < low → climbing low (numbers_left b end w) ≡ false
    unfolding climbing
    climb_fall h = rw (numbers_more, lt-leb low (word b w) h) (unfold ◌and◌ in refl)

pub ruleset climbs = (known, climb_start, climb_end, climb_next, climb_fall)

-- ---- a field's list

-- An array takes no list, and a number one that fits its type.
names_by : (f : Field) (l : NameList) → f.names ≡ names_of l → (a t : Bool) → is_array f ≡ a → eqb l.kind 0 ≡ t
    → names_good f ≡ (not a and list_fits l f.type)
unfolding kind_good list_fits when◌then◌else◌
names_by f l is a true e t =
    let k : f.names.kind ≡ enumeration = rw (is, t) refl in
    rw (k, t, e) refl
names_by f l is a false e t =
    let k : f.names.kind ≡ set = rw (is, t) refl in
    let ns : f.names.numbers ≡ l.numbers = rw is refl in
    rw (k, t, e, ns) refl

-- The last word of the field leads to no list, to a missing one, or to the list whose row is found.
module _ (b body : List ℕ) (w : ℕ) where
  abbrev this_field : Field
  this_field = field_at (lists_of b) body w

  abbrev list : ℕ
  list = word body (w + 6)

  pub names_none : list ≡ 0 → names_good this_field ≡ true
  unfolding find_names kind_good
  names_none e = rw e refl

  module _ (named : 0 < list) where
    abbrev same : suc (list - 1) ≡ list
    same = omega arith

    pub names_missing : listed_of b (list - 1) ≡ None → names_good this_field ≡ false
    unfolding kind_good
    names_missing e = rw (rw same at (not_listed b (list - 1) e)) refl

    names_found : (i : ℕ) → listed_of b (list - 1) ≡ Some i
        → names_good this_field
        ≡ (leb this_field.length 1 and list_fits (list_at b (list_row b i)) this_field.type)
    names_found i e =
        let is = rw same at (listed_at b (list - 1) i e) in
        let q : not (is_array this_field) ≡ leb this_field.length 1 = grind (arith, known) in
        rw q at (names_by this_field (list_at b (list_row b i)) is (is_array this_field) (eqb (list_at b (list_row b i)).kind 0) refl refl)

    pub names_fit : (i : ℕ) → this_field.length ≤ 1 → listed_of b (list - 1) ≡ Some i
        → list_fits (list_at b (list_row b i)) this_field.type ≡ names_good this_field
    names_fit i one e = grind (arith, known, names_found i e)

    pub names_array : 1 < this_field.length → names_good this_field ≡ false
    names_array more = go (listed_of b (list - 1)) refl
      where
        go : (r : Option ℕ) → listed_of b (list - 1) ≡ r → names_good this_field ≡ false
        go None e = names_missing e
        go (Some i) e = grind (arith, known, names_found i e)

pub ruleset names_laws = (known, names_none, names_missing, names_fit, names_array, listed_below, list_lies)

-- ---- all lists

-- The rule of the book's lists from place i on, counted on from the templates.
abbrev pub lists_from : List ℕ → ℕ → Result (Unit {0})
lists_from b i =
    each_must list_good BookBlock i (map (name_list_of b) (rows_left b head_size (word b 2 + word b 4) i))

module _ (b : List ℕ) where
  pub lists_start : lists_from b (word b 2) ≡ each_must list_good BookBlock (word b 2) (lists_of b)
  lists_start = let q : word b 2 + word b 4 - word b 2 ≡ word b 4 = omega arith in rw q refl

module _ (b : List ℕ) (i : ℕ) where
  pub lists_end : word b 2 + word b 4 ≤ i → lists_from b i ≡ done tt
  unfolding each_must
  lists_end h = rw (rows_none b head_size (word b 2 + word b 4) i h) refl

  module _ (more : i < word b 2 + word b 4) where
    abbrev this : NameList
    this = list_at b (head_size + 3 * i)

    lists_step : lists_from b i ≡ (must (list_good this) BookBlock i >>= λ _. lists_from b (i + 1))
    unfolding each_must
    lists_step =
        let q : i + 1 ≡ suc i = omega arith in
        rw (rows_more b head_size (word b 2 + word b 4) i more, q) refl

    pub lists_next : list_good this ≡ true → lists_from b i ≡ lists_from b (i + 1)
    unfolding must ◌>>=◌
    lists_next e = rw (lists_step, e) refl

    pub lists_bad : list_good this ≡ false → lists_from b i ≡ refused BookBlock i
    unfolding must ◌>>=◌
    lists_bad e = rw (lists_step, e) refl

-- The row at each of these places lies in the book, and its body.
pub list_placed : (s : List ℕ) (has : HasLists s) (i : ℕ) → let b = words_of s in
    word b 2 ≤ i → i < word b 2 + word b 4 → IsListRow s (head_size + 3 * i)
list_placed s has i least most =
    let b = words_of s in
    let q : word b 2 + (i - word b 2) ≡ i = omega arith in
    rw q at (list_lies s has (i - word b 2) (omega arith))

pub ruleset lists_laws = (known, lists_start, lists_end, lists_next, lists_bad, list_placed)
