-- The rows of a book's contents, and its lists, as the code finds them: s is the octets of a book.
use Rattle.std.specs.Prelude.{◌≡◌, Bool, true, List, [], ◌∷◌, ℕ, suc, ◌+◌, ◌-◌, ◌*◌, ◌/◌, ◌≤◌, eqb, ltb, length, take, drop, Option, Some, None}
use Rattle.layout.specs.Result.{◌and◌, done, when◌then◌else◌}
use Rattle.layout.specs.Octets.{words_of}
use Rattle.layout.specs.Types.{type_at}
use Rattle.layout.specs.Lists.{NameList, is_one_of}
use Rattle.layout.specs.BookRules.{ContentsRow, check_contents, format_of, greatest, head_good, list_rows, name_list_of, word}

-- The head is good, and so the contents lie within the book.
pub record BookHead (s : List ℕ) : Type 0 where
  pub good : head_good (words_of s) ≡ true

-- So are the contents: numbers rise along the rows, and bodies lie within the book.
pub record HasLists (s : List ℕ) : Type 0 where
  pub head : BookHead s
  pub kept : check_contents (words_of s) ≡ done tt

-- Whether dimensions have counts.
abbrev pub counted_in : List ℕ → Bool
counted_in s = (format_of (words_of s)).in_groups

-- The words of the body of the row at word w of the words b.
abbrev pub body_at : List ℕ → ℕ → List ℕ
body_at b w = take (word b (w + 2)) (drop (word b (w + 1)) b)

-- Its octets, of the octets s.
abbrev pub octets_at : List ℕ → ℕ → List ℕ
octets_at s w =
    let k = 2 * word (words_of s) (w + 1) in
    take (k + 2 * word (words_of s) (w + 2) - k) (drop k s)

-- ---- lists

-- The list whose row is at word w of the words b.
abbrev pub list_at : List ℕ → ℕ → NameList
list_at b w = name_list_of b (record { id = word b w; first = word b (w + 1); words = word b (w + 2) })

-- A row is there, and its body.
pub record IsListRow (s : List ℕ) (w : ℕ) : Type 0 where
  pub fits : w + 3 ≤ length s / 2
  pub lies : word (words_of s) (w + 1) + word (words_of s) (w + 2) ≤ length s / 2

-- The position of the list with this number among rows, of which the first has position i.
unfoldable pub listed_among : ℕ → List ContentsRow → ℕ → Option ℕ
listed_among id [] i = None
listed_among id (r ∷ rs) i = when eqb r.id id then Some i else listed_among id rs (suc i)

abbrev pub listed_of : List ℕ → ℕ → Option ℕ
listed_of b id = listed_among id (list_rows b) 0

-- Rule 5 of a list: whether it fits a number of type t.
unfoldable pub list_fits : NameList → ℕ → Bool
list_fits l t =
    when eqb l.kind 0 then is_one_of t (0 ∷ 2 ∷ 4 ∷ [])
    else is_one_of t (2 ∷ 4 ∷ 6 ∷ 8 ∷ []) and ltb (greatest l.numbers) (8 * (type_at t).width)
