-- The book that prepared numbers p hold, read back, and what every call that is lent them requires.
use Rattle.std.specs.Prelude.{◌≡◌, List, [], ◌∷◌, ℕ, zero, suc, ◌+◌, ◌*◌, ◌≤◌, ◌<◌, eqb, length, Option, Some, None}
use Rattle.layout.specs.Result.{done, when◌then◌else◌}
use Rattle.layout.specs.Book.{Book, Template}
use Rattle.layout.specs.BookRules.{book_of, word}
use Rattle.prepared.specs.Numbers.{contents_from, prepared_of, slots, slots_from}
use Rattle.prepared.specs.Names.{lists_at}
use Rattle.prepared.specs.Positions.{BlockAt, inner_at, is_big, is_counted, shape_at}

-- The prepared book of an accepted one.
pub record IsPrepared (p : List ℕ) : Type 0 where
  pub octets : List ℕ
  pub tree : Book
  pub accepted : book_of octets ≡ done tree
  pub is : p ≡ prepared_of tree

-- ---- read back by position

-- The template whose block stands at a.
abbrev pub template_at : List ℕ → ℕ → Template
template_at p a = record { id = word p a; shape = shape_at p a; groups = inner_at p 4 a }

-- n rows of the contents from w on: an id, and the place of the template's block.
unfoldable pub templates_at : List ℕ → ℕ → ℕ → List Template
templates_at p zero w = []
templates_at p (suc n) w = template_at p (word p (w + 1)) ∷ templates_at p n (w + 2)

abbrev pub book_at : List ℕ → Book
book_at p =
    record {
      schema = word p 0;
      version = word p 1;
      format = record { big = is_big p; in_groups = is_counted p };
      lists = lists_at p;
      templates = templates_at p (word p 2) contents_from;
    }

-- The place of the template with this id, among n rows of the contents from w on.
unfoldable pub location_among : List ℕ → ℕ → ℕ → ℕ → Option ℕ
location_among p id zero w = None
location_among p id (suc n) w =
    when eqb (word p w) id then Some (word p (w + 1)) else location_among p id n (w + 2)

abbrev pub location_of : List ℕ → ℕ → Option ℕ
location_of p id = location_among p id (word p 2) contents_from

-- Row i of the contents.
module _ (p : List ℕ) (i : ℕ) where
  abbrev pub id_of : ℕ
  id_of = word p (contents_from + 2 * i)

  abbrev pub block_of : ℕ
  block_of = word p (contents_from + 2 * i + 1)

  pub record IsTemplate : Type 0 where
    pub block : BlockAt p 4 block_of
    pub id : word p block_of ≡ id_of
    pub less : id_of < 65535

-- A slot is empty, or leads to the template of a row.
pub data IsSlot (p : List ℕ) (a : ℕ) : Type 0 where
  empty : a ≡ 0 → IsSlot p a
  leads : (i : ℕ) → i < word p 2 → a ≡ block_of p i → IsSlot p a

-- A book stands among the numbers.
pub record HoldsBook (p : List ℕ) : Type 0 where
  pub short : length p ≤ 65535
  pub fits : contents_from + 2 * word p 2 ≤ length p
  pub schema : word p 0 < 65535
  pub version : word p 1 < 65535
  pub few : word p 2 ≤ 64
  pub templates : (i : ℕ) → i < word p 2 → IsTemplate p i
  pub rising : (i j : ℕ) → i < j → j < word p 2 → id_of p i < id_of p j
  pub slot : (j : ℕ) → j < slots → IsSlot p (word p (slots_from + j))
