-- What the passes over a body know of the book with the octets s: its version, the order of its messages, its lists,
-- and where the lists stand among the prepared numbers.
use Rattle.std.specs.Prelude.{◌≡◌, ℕ, ◌+◌, ◌*◌, ◌/◌, ◌<◌, ◌≤◌, Bool, true, List, length}
use Rattle.layout.specs.Result.{Each}
use Rattle.layout.specs.Octets.{words_of}
use Rattle.layout.specs.Lists.{NameList}
use Rattle.layout.specs.Book.{Field, Groups}
use Rattle.layout.specs.BookRules.{contents_size, format_of, head_size, list_good, lists_of, parse_fields, word}
use Rattle.book.specs.Rows.{HasLists, IsListRow, list_at}
use Rattle.prepared.specs.Numbers.{groups_of, lists_from, place_of, table_of}

module _ (s : List ℕ) where
  abbrev pub version_of : ℕ
  version_of = word (words_of s) 1

  abbrev pub big_in : Bool
  big_in = (format_of (words_of s)).big

  abbrev pub lists_in : List NameList
  lists_in = lists_of (words_of s)

  -- The place of the first list.
  abbrev pub from_in : ℕ
  from_in = lists_from (word (words_of s) 2)

  abbrev pub place_in : ℕ → ℕ
  place_in list = place_of list lists_in from_in

  -- The n fields at word w of a body.
  abbrev pub fields_in : List ℕ → ℕ → ℕ → List Field
  fields_in body n w = parse_fields lists_in (words_of body) n w

  abbrev pub table_in : List Field → List ℕ
  table_in fs = table_of lists_in from_in big_in fs

  abbrev pub groups_in : Groups → ℕ → List ℕ
  groups_in gs at = groups_of lists_in from_in big_in version_of gs at

  -- The lists lie in the book and keep their rule.
  pub record GoodLists : Type 0 where
    pub has : HasLists s
    pub fits : head_size + contents_size (words_of s) ≤ length s / 2
    pub good : Each (λ l. list_good l ≡ true) lists_in

module _ (s : List ℕ) where
  -- The word where list i starts.
  abbrev pub start_of : ℕ → ℕ
  start_of i = word (words_of s) (head_size + 3 * word (words_of s) 2 + 3 * i + 1)

  -- There is a list i, which starts no earlier than the first.
  pub record IsPlaced (i : ℕ) : Type 0 where
    pub below : i < word (words_of s) 4
    pub rises : start_of 0 ≤ start_of i

-- The list whose row is at word w does: it has a kind, and a number.
pub record IsGoodList (s : List ℕ) (w : ℕ) : Type 0 where
  pub row : IsListRow s w
  pub good : list_good (list_at (words_of s) w) ≡ true
  pub some_words : 2 ≤ word (words_of s) (w + 2)
