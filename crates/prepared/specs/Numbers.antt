-- The prepared book: the numbers that are made once of an accepted book's tree. Fields and data are seven and two
-- numbers as in the book; what is worked out of them stands in a block's head, and of each field in a table behind
-- them.
use Rattle.std.specs.Prelude.{Bool, List, [], ◌∷◌, ◌++◌, ℕ, zero, suc, ◌+◌, ◌-◌, ◌*◌, ◌%◌, ◌^◌, eqb, ltb, length, replicate, set}
use Rattle.layout.specs.Result.{when◌then◌else◌}
use Rattle.layout.specs.Types.{TypeRow, type_at}
use Rattle.layout.specs.Lists.{NameList}
use Rattle.layout.specs.Book.{Field, Data, Shape, Groups, none, more, Template, Book, group_sinces, need}
use Rattle.layout.specs.Message.{dimension_size}
use Rattle.number_types.specs.Value.{coded, order_of}

unfoldable pub fields_of : List Field → List ℕ
fields_of [] = []
fields_of (f ∷ fs) =
    f.id ∷ f.type ∷ f.length ∷ f.offset ∷ f.presence ∷ f.since ∷ f.list ∷ fields_of fs

unfoldable pub datas_of : List Data → List ℕ
datas_of [] = []
datas_of (d ∷ ds) = d.id ∷ d.since ∷ datas_of ds

-- How far the greatest number of a type is above its least, counted upwards and around 2 ^ 64.
abbrev pub spread : TypeRow → ℕ
spread k = (2 ^ 64 + k.greatest - k.least) % 2 ^ 64

-- ---- lists

-- The number whose bits are these, of which 64-bit numbers have those below 64.
abbrev pub bit_of : ℕ → ℕ
bit_of n = when ltb n 64 then 2 ^ n else 0

unfoldable pub mask_of : List ℕ → ℕ
mask_of [] = 0
mask_of (n ∷ ns) = bit_of n + mask_of ns

-- A list: its number, the word for its kind, its mask, how many numbers it has, and these.
abbrev pub list_numbers : NameList → List ℕ
list_numbers l = l.id ∷ l.kind ∷ mask_of l.numbers ∷ length l.numbers ∷ l.numbers

abbrev pub list_size : NameList → ℕ
list_size l = 4 + length l.numbers

unfoldable pub lists_numbers : List NameList → List ℕ
lists_numbers [] = []
lists_numbers (l ∷ ls) = list_numbers l ++ lists_numbers ls

unfoldable pub lists_size : List NameList → ℕ
lists_size [] = 0
lists_size (l ∷ ls) = list_size l + lists_size ls

-- The place of the list that a field's seventh word leads to, the first list standing at `at`; 0 if it leads to none.
unfoldable pub place_of : ℕ → List NameList → ℕ → ℕ
place_of zero ls at = 0
place_of (suc id) [] at = 0
place_of (suc id) (l ∷ ls) at = when eqb l.id id then at else place_of (suc id) ls (at + list_size l)

-- ---- blocks: ls are the book's lists, of which the first stands at `from`, and `big` is the order of its messages

-- What is worked out of a field: the code of its type with the order; of its type the least number, the spread, the
-- null and the width; the place of its list.
unfoldable pub table_of : List NameList → ℕ → Bool → List Field → List ℕ
table_of ls from big [] = []
table_of ls from big (f ∷ fs) =
    let k = type_at f.type in
    coded big f.type ∷ k.least ∷ spread k ∷ k.null ∷ k.width ∷ place_of f.list ls from ∷ table_of ls from big fs

abbrev pub count : Groups → ℕ
count gs = length (group_sinces gs)

-- What a dimension has behind its first two numbers where it counts g groups and d data, neither above 255: four
-- octets, taken as one number, the least significant octet first.
abbrev pub own_counts : ℕ → ℕ → ℕ → ℕ
own_counts order g d = (255 * order + 1) * (g + 65536 * d)

-- How many numbers a block has without its groups.
abbrev pub block_size : Shape → ℕ
block_size s = 12 + 7 * length s.fields + 2 * length s.datas + 6 * length s.fields

-- A block at `at` with g groups: id, since, declared length; counts of fields, groups and data; the need at the book's
-- version; the counts of its groups and data as they stand in a dimension, 0 if nothing follows its octets; the places
-- after it and its groups, of its groups, of its data and of its fields' table. Then its fields, its data, and the
-- table.
abbrev pub block_of : List NameList → ℕ → Bool → ℕ → ℕ → ℕ → Shape → ℕ → ℕ → ℕ → List ℕ
block_of ls from big version id since s g next at =
    let f = length s.fields in
    let d = length s.datas in
    (id ∷ since ∷ s.length ∷ f ∷ g ∷ d ∷ need version s ∷ own_counts (order_of big) g d ∷ next ∷ (at + block_size s)
    ∷ (at + 12 + 7 * f) ∷ (at + 12 + 7 * f + 2 * d) ∷ [])
    ++ (fields_of s.fields ++ (datas_of s.datas ++ table_of ls from big s.fields))

unfoldable pub groups_size : Groups → ℕ
groups_size none = 0
groups_size (more i since s inner rest) = block_size s + groups_size inner + groups_size rest

-- The groups of a row, the first standing at `at`.
unfoldable pub groups_of : List NameList → ℕ → Bool → ℕ → Groups → ℕ → List ℕ
groups_of ls from big version none at = []
groups_of ls from big version (more i since s inner rest) at =
    let x = at + block_size s in
    let y = x + groups_size inner in
    block_of ls from big version i since s (count inner) y at
    ++ (groups_of ls from big version inner x ++ groups_of ls from big version rest y)

-- A template is a row of one group, whose since is 0.
abbrev pub row_of : Template → Groups
row_of t = more t.id 0 t.shape t.groups none

-- The contents, an id and a place for each template, and then their blocks.
unfoldable pub contents_of : List Template → ℕ → List ℕ
contents_of [] at = []
contents_of (t ∷ ts) at = t.id ∷ at ∷ contents_of ts (at + groups_size (row_of t))

unfoldable pub bodies_of : List NameList → ℕ → Bool → ℕ → List Template → ℕ → List ℕ
bodies_of ls from big version [] at = []
bodies_of ls from big version (t ∷ ts) at =
    groups_of ls from big version (row_of t) at ++ bodies_of ls from big version ts (at + groups_size (row_of t))

-- How many numbers the blocks are.
unfoldable pub sizes_of : List Template → ℕ
sizes_of [] = 0
sizes_of (t ∷ ts) = groups_size (row_of t) + sizes_of ts

-- 64 slots: the place of the last template whose id leaves this remainder, or 0. A template that is not there is
-- searched in the contents.
abbrev pub slots : ℕ
slots = 64

unfoldable pub slots_of : List Template → ℕ → List ℕ → List ℕ
slots_of [] at ss = ss
slots_of (t ∷ ts) at ss = slots_of ts (at + groups_size (row_of t)) (set ss (t.id % slots) at)

-- Where the slots and the contents start, and the lists of a book of n templates.
abbrev pub slots_from : ℕ
slots_from = 6

abbrev pub contents_from : ℕ
contents_from = 70

abbrev pub lists_from : ℕ → ℕ
lists_from n = contents_from + 2 * n

-- Schema, version, numbers of templates and of lists, order, octets of a dimension; the slots; the contents; the lists;
-- the blocks.
unfoldable pub prepared_of : Book → List ℕ
prepared_of b =
    let n = length b.templates in
    let from = lists_from n in
    let at = from + lists_size b.lists in
    (b.schema ∷ b.version ∷ n ∷ length b.lists ∷ order_of b.format.big
    ∷ dimension_size b.format.in_groups ∷ [])
    ++ (slots_of b.templates at (replicate slots 0)
    ++ (contents_of b.templates at
    ++ (lists_numbers b.lists ++ bodies_of b.lists from b.format.big b.version b.templates at)))
