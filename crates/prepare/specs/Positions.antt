-- Where the parts of a block stand among the words of a body with the octets s, the trees that they are by the book's
-- lists ls, and what is made of them in the code's steps.
use Rattle.std.specs.Prelude.{◌≡◌, ℕ, zero, suc, ◌+◌, ◌-◌, ◌*◌, ◌/◌, ◌<◌, ◌≤◌, Bool, List, [], ◌∷◌, ◌++◌, length}
use Rattle.layout.specs.Octets.{words_of}
use Rattle.layout.specs.Types.{type_at}
use Rattle.layout.specs.Book.{Groups, Shape, more, none}
use Rattle.layout.specs.BookRules.{word, parse_datas, parse_fields}
use Rattle.layout.specs.Lists.{NameList}
use Rattle.prepared.specs.Numbers.{groups_size, own_counts, spread, table_of}

-- What is worked out of a field of the type t with this order, whose list is at `place`.
abbrev pub worked : ℕ → ℕ → ℕ → List ℕ
worked t order place =
    let k = type_at t in
    (2 * t + order) ∷ k.least ∷ spread k ∷ k.null ∷ k.width ∷ place ∷ []

-- n words from word w on.
abbrev pub words_from : List ℕ → ℕ → ℕ → List ℕ
words_from s zero w = []
words_from s (suc n) w = word (words_of s) w ∷ words_from s n (suc w)

module _ (s : List ℕ) (w : ℕ) where
  -- The counts of the block at word w, and where its groups start.
  abbrev pub many_fields : ℕ
  many_fields = word (words_of s) (w + 1)

  abbrev pub many_groups : ℕ
  many_groups = word (words_of s) (w + 2)

  abbrev pub many_datas : ℕ
  many_datas = word (words_of s) (w + 3)

  abbrev pub groups_from : ℕ
  groups_from = w + 4 + 7 * many_fields + 2 * many_datas

  -- How many numbers it is without its groups: its head, and then its fields, its data and its fields' table.
  abbrev pub size_at : ℕ
  size_at = 12 + 13 * many_fields + 2 * many_datas

  abbrev pub head_at : ℕ → ℕ → ℕ → ℕ → ℕ → ℕ → List ℕ
  head_at id since need order next at =
      id ∷ since ∷ word (words_of s) w ∷ many_fields ∷ many_groups ∷ many_datas ∷ need
      ∷ own_counts order many_groups many_datas ∷ next ∷ (at + size_at) ∷ (at + 12 + 7 * many_fields)
      ∷ (at + 12 + 7 * many_fields + 2 * many_datas) ∷ []

-- The shape of the block at word w, and its elements' numbers, the first list standing at `from` and `big` being the
-- order of the book's messages.
module _ (ls : List NameList) (s : List ℕ) (w : ℕ) where
  abbrev pub shape_at : Shape
  shape_at =
      record {
        length = word (words_of s) w;
        fields = parse_fields ls (words_of s) (many_fields s w) (w + 4);
        datas = parse_datas (words_of s) (many_datas s w) (w + 4 + 7 * many_fields s w);
      }

  abbrev pub elements_at : ℕ → Bool → List ℕ
  elements_at from big =
      words_from s (7 * many_fields s w + 2 * many_datas s w) (w + 4) ++ table_of ls from big shape_at.fields

-- The word after the n groups in a row at word w, `depth` more levels being left, and the groups.
unfoldable pub groups_end : List ℕ → ℕ → ℕ → ℕ → ℕ
groups_end s zero zero w = w
groups_end s (suc depth) zero w = w
groups_end s zero (suc n) w = w
groups_end s (suc depth) (suc n) w =
    groups_end s (suc depth) n (groups_end s depth (many_groups s (w + 2)) (groups_from s (w + 2)))

unfoldable pub groups_at : List NameList → List ℕ → ℕ → ℕ → ℕ → Groups
groups_at ls s zero zero w = none
groups_at ls s (suc depth) zero w = none
groups_at ls s zero (suc n) w = none
groups_at ls s (suc depth) (suc n) w =
    more (word (words_of s) w) (word (words_of s) (w + 1)) (shape_at ls s (w + 2))
    (groups_at ls s depth (many_groups s (w + 2)) (groups_from s (w + 2)))
    (groups_at ls s (suc depth) n (groups_end s depth (many_groups s (w + 2)) (groups_from s (w + 2))))

-- They stand there.
unfoldable pub IsRow : List ℕ → ℕ → ℕ → ℕ → Type 0
IsRow s zero zero w = Unit {0}
IsRow s (suc depth) zero w = Unit {0}
IsRow s zero (suc n) w = ⊥
IsRow s (suc depth) (suc n) w =
    (groups_from s (w + 2) ≤ length s / 2) × IsRow s depth (many_groups s (w + 2)) (groups_from s (w + 2))
    × IsRow s (suc depth) n (groups_end s depth (many_groups s (w + 2)) (groups_from s (w + 2)))

-- The groups of the block at word w, and the word after them.
module _ (ls : List NameList) (s : List ℕ) (depth w : ℕ) where
  abbrev pub inner_at : Groups
  inner_at = groups_at ls s depth (many_groups s w) (groups_from s w)

  -- The block as a group with this id and since, alone in its row.
  abbrev pub group_at : ℕ → ℕ → Groups
  group_at id since = more id since (shape_at ls s w) inner_at none

module _ (s : List ℕ) (depth w : ℕ) where
  abbrev pub inner_end : ℕ
  inner_end = groups_end s depth (many_groups s w) (groups_from s w)

  -- How many numbers the block is with its groups, which does not depend on lists.
  abbrev pub group_size : ℕ
  group_size = size_at s w + groups_size (inner_at [] s depth w)

  pub record BlockAt : Type 0 where
    pub fits : groups_from s w ≤ length s / 2
    pub row : IsRow s depth (many_groups s w) (groups_from s w)

-- The first of the n groups at word w: its block with its groups, and the groups after it.
pub record Opened (s : List ℕ) (depth n w : ℕ) : Type 0 where
  pub deep : 0 < depth
  pub block : BlockAt s (depth - 1) (w + 2)
  pub rest : IsRow s depth (n - 1) (inner_end s (depth - 1) (w + 2))
  pub end : groups_end s depth n w ≡ groups_end s depth (n - 1) (inner_end s (depth - 1) (w + 2))
  pub tree : (ls : List NameList) → groups_at ls s depth n w
      ≡ more (word (words_of s) w) (word (words_of s) (w + 1)) (shape_at ls s (w + 2)) (inner_at ls s (depth - 1) (w + 2))
      (groups_at ls s depth (n - 1) (inner_end s (depth - 1) (w + 2)))
