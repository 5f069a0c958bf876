-- The templates of a book with the octets s, read by position, and how they are stored.
use Rattle.std.specs.Prelude.{◌≡◌, ℕ, zero, suc, ◌+◌, ◌*◌, ◌/◌, ◌%◌, ◌<◌, ◌≤◌, List, [], ◌∷◌, length, slice_set}
use Rattle.std.proofs.lemmas.List.Edits.{sets}
use Rattle.layout.specs.Octets.{words_of}
use Rattle.layout.specs.Book.{Book, Template}
use Rattle.layout.specs.BookRules.{format_of, head_size, word}
use Rattle.book.specs.Rows.{octets_at}
use Rattle.prepared.specs.Numbers.{lists_from, lists_size, row_of, sizes_of, slots, slots_from}
use Rattle.prepare.specs.Names.{GoodLists, groups_in, lists_in}
use Rattle.prepare.specs.Positions.{BlockAt, group_size, inner_at, inner_end, shape_at}

-- s are the octets of a template's body.
pub record IsBody (s : List ℕ) : Type 0 where
  pub block : BlockAt s 4 0
  pub end : inner_end s 4 0 ≡ length s / 2

-- ---- the templates of a book

module _ (s : List ℕ) (w : ℕ) where
  -- The body of the template whose row of the contents is at word w, and the template.
  abbrev pub body_at : List ℕ
  body_at = octets_at s w

  abbrev pub template_at : Template
  template_at =
      record { id = word (words_of s) w; shape = shape_at (lists_in s) body_at 0; groups = inner_at (lists_in s) body_at 4 0 }

  -- How many numbers it is.
  abbrev pub template_size : ℕ
  template_size = group_size body_at 4 0

  pub record IsTemplate : Type 0 where
    pub fits : w + 3 ≤ length s / 2
    pub lies : word (words_of s) (w + 1) + word (words_of s) (w + 2) ≤ length s / 2
    pub body : IsBody body_at

-- Those of n rows from word w on.
unfoldable pub templates_at : List ℕ → ℕ → ℕ → List Template
templates_at s zero w = []
templates_at s (suc n) w = template_at s w ∷ templates_at s n (w + 3)

abbrev pub AreTemplates : List ℕ → ℕ → Type 0
AreTemplates s n = (i : ℕ) → i < n → IsTemplate s (head_size + 3 * i)

abbrev pub book_at : List ℕ → Book
book_at s =
    let b = words_of s in
    record {
      schema = word b 0;
      version = word b 1;
      format = format_of b;
      lists = lists_in s;
      templates = templates_at s (word b 2) head_size;
    }

-- A book of n templates, with its head: few enough numbers for every sum of the code.
pub record IsPreparable (s : List ℕ) (n : ℕ) : Type 0 where
  pub lists : GoodLists s
  pub count : n ≡ word (words_of s) 2
  pub templates : AreTemplates s n
  pub few : lists_from n + lists_size (lists_in s) + sizes_of (templates_at s n head_size) ≤ 65535

-- The room d once a template is stored: its slot, its row of the contents at c, and its block from `at` on.
abbrev pub laid : List ℕ → Template → ℕ → ℕ → List ℕ → List ℕ
laid s t c at d = sets (sets (slice_set d (slots_from + t.id % slots) at) c (t.id ∷ at ∷ [])) at (groups_in s (row_of t) at)
