-- A message's octets, checked against the book and read into a tree of answers, or the refusal 10 to 22: the one walk
-- by which every reading operation is defined.
use Rattle.std.specs.Prelude.{Bool, true, false, List, [], ◌∷◌, map, ℕ, zero, suc, ◌+◌, ◌-◌, ◌*◌, leb, ltb, eqb, drop, length, take}
use Rattle.layout.specs.Result.{Result, done, must, or_refuse, when◌then◌else◌, ◌and◌, ◌>>=◌, refused}
use Rattle.layout.specs.Octets.{number_at, number16, null16, text_length}
use Rattle.layout.specs.Types.{type_at, value_of, classify}
use Rattle.layout.specs.Lists.{beside}
use Rattle.layout.specs.Book.{Book, Data, Field, Format, Groups, Shape, Template, data_sinces, find_template}
use Rattle.layout.specs.Book.{group_sinces, is_array, is_char, is_optional, more, need, none, present}
use Rattle.layout.specs.Values.{Values, nil, entry, group}
use Rattle.layout.specs.declared.Answer.{Answer}
use Rattle.layout.specs.declared.Answer.TheVariants.{Null, Octets, Absent, Group}
use Rattle.layout.specs.declared.Reason.TheVariants.{CountsWrong, DataLengthNull, DimensionNull, GroupBlockShort, GroupCountsWrong, GroupTooDeep, HeaderNull, MessageSize, OctetsLeftOver, PastTheEnd, RootBlockShort, SchemaDiffers, TemplateUnknown}

-- The number of groups and the number of data of a block stand in the header for the root and, where the book's format
-- says so, in a group's dimension: how many numbers that is.
abbrev pub count_numbers : Bool → ℕ
count_numbers true = 2
count_numbers false = 0

-- A count that stands at `at`, if blocks of this kind are `counted`.
abbrev pub count_at : Bool → Bool → List ℕ → ℕ → ℕ
count_at true big m at = number16 big m at
count_at false big m at = 0

-- "Header, six 16-bit numbers: block length, template id, schema id, version, number of groups, number of data."
abbrev pub header_numbers : ℕ
header_numbers = 4 + count_numbers true

abbrev pub header_size : ℕ
header_size = 2 * header_numbers

-- They are in the book's order, as every number of a message is.

abbrev pub block_length : Bool → List ℕ → ℕ
block_length big m = number16 big m 0

abbrev pub template_id : Bool → List ℕ → ℕ
template_id big m = number16 big m 2

abbrev pub schema_id : Bool → List ℕ → ℕ
schema_id big m = number16 big m 4

abbrev pub version_of : Bool → List ℕ → ℕ
version_of big m = number16 big m 6

abbrev pub group_count : Bool → List ℕ → ℕ
group_count big m = count_at true big m 8

abbrev pub data_count : Bool → List ℕ → ℕ
data_count big m = count_at true big m 10

-- "If v is at most the book's version, the header's counts equal the numbers of root groups and data with since at most
-- v. If v is greater, each is at least the book's number": of the elements with these sinces n are counted. "With four,
-- the header's rule on counts holds for every known group, empty or not, at its own level."
unfoldable pub count_good : Bool → ℕ → ℕ → List ℕ → ℕ → Bool
count_good true version v ss n = when leb v version then eqb n (present v ss) else leb (length ss) n
count_good false version v ss n = true

-- How many of those are surplus. Where nothing is counted, n is 0 and nothing is surplus.
abbrev pub surplus : ℕ → List ℕ → ℕ → ℕ
surplus v ss n = n - present v ss

-- "A group is a dimension .. and its entries": "block length, entries, number of groups, number of data".
pub record Dimension : Type 0 where
  pub length : ℕ
  pub entries : ℕ
  pub groups : ℕ
  pub datas : ℕ

abbrev pub dimension_size : Bool → ℕ
dimension_size counted = 2 * (2 + count_numbers counted)

-- "10: message under 12 or over 65,535 octets"
abbrev pub most_message : ℕ
most_message = 65535

-- "Groups nest to depth four, a root group being depth one."
abbrev pub depth_limit : ℕ
depth_limit = 4

-- How many levels are left inside a group where `levels` are left for it.
abbrev pub inside : ℕ → ℕ
inside zero = zero
inside (suc levels) = levels

-- n things in a row, each passed by f and starting where the one before ends.
unfoldable pub in_row : ℕ → (ℕ → Result ℕ) → ℕ → Result ℕ
in_row zero f at = done at
in_row (suc n) f at = f at >>= in_row n f

-- ---- what may be surplus: m is the message, of big-endian numbers if `big`

module _ (big : Bool) (m : List ℕ) where
  -- "A data is a 16-bit length and that many octets": what it is, and where it ends. "at data 16 for the length, 19, 16
  -- for the octets"
  unfoldable pub read_data : ℕ → Result (Answer × ℕ)
  read_data at = do
    _ ← must (leb (at + 2) (length m)) PastTheEnd at
    let n = number16 big m at
    _ ← must (ltb n null16) DataLengthNull at
    _ ← must (leb (at + 2 + n) (length m)) PastTheEnd at
    done (Octets (at + 2) n, at + 2 + n)

  -- "surplus data by their lengths"
  abbrev pub skip_datas : ℕ → ℕ → Result ℕ
  skip_datas n at = in_row n (λ x. read_data x >>= λ r. done r.1) at

  -- An entry of a surplus group that has this dimension at `place`, f passing each of its groups. "A surplus group that
  -- runs out is placed at its dimension."
  unfoldable pub skip_entry : (ℕ → Result ℕ) → Dimension → ℕ → ℕ → Result ℕ
  skip_entry f d place at = do
    _ ← must (leb (at + d.length) (length m)) PastTheEnd place
    x ← in_row d.groups f (at + d.length)
    skip_datas d.datas x

-- `counted`: whether dimensions have four numbers.
module _ (counted big : Bool) (m : List ℕ) where
  -- "at a dimension 16, 17"; "17 covers all four numbers", of which a book that uses two lacks the counts.
  unfoldable pub read_dimension : ℕ → Result Dimension
  read_dimension at = do
    _ ← must (leb (at + dimension_size counted) (length m)) PastTheEnd at
    let l = number16 big m at
    let k = number16 big m (at + 2)
    let g = count_at counted big m (at + 4)
    let d = count_at counted big m (at + 4 + 2)
    _ ← must (ltb l null16 and ltb k null16 and ltb g null16 and ltb d null16) DimensionNull at
    done (record { length = l; entries = k; groups = g; datas = d })

  -- "surplus groups are skipped depth first by their own counts"; without counts that is "as dimension plus block
  -- length times entries" (proofs/Skipped). "22 for any group on the wire below depth four": `levels` levels are left.
  unfoldable pub skip_group : ℕ → ℕ → Result ℕ
  skip_group zero at = read_dimension at >>= λ _. refused GroupTooDeep at
  skip_group (suc levels) at = do
    d ← read_dimension at
    in_row d.entries (skip_entry big m (skip_group levels) d at) (at + dimension_size counted)

-- ---- what the book knows

-- What an entry is read as: its fields, its groups, its data, and where it ends.
abbrev pub Entry : Type 0
Entry = List Answer × Values × List Answer × ℕ

-- n entries, each read by f.
unfoldable pub read_entries : ℕ → (ℕ → Result Entry) → ℕ → Result (Values × ℕ)
read_entries zero f at = done (nil, at)
read_entries (suc n) f at = do
  (fs, gs, ds, x) ← f at
  (rest, y) ← read_entries n f x
  done (entry fs gs ds rest, y)

module _ (m : List ℕ) where
  -- "A char array's text now ends before its first NUL; an optional one that starts with NUL is null, a required one is
  -- empty text."
  abbrev pub text_at : ℕ → Field → Answer
  text_at start f =
      let n = text_length (take f.length (drop start m)) in
      when is_optional f and eqb n 0 then Null else Octets start n

  -- An array, which but for text "is plain octets, never null and not range-checked".
  unfoldable pub array_at : ℕ → Field → Answer
  array_at start f = when is_char f then text_at start f else Octets start f.length

-- "Let v be the message's version."
module _ (big : Bool) (m : List ℕ) (v : ℕ) where
  -- A field that is present in the block at `at`.
  abbrev pub present_field : ℕ → Field → Answer
  present_field at f =
      let k = type_at f.type in
      let start = at + f.offset in
      let value = value_of k (number_at big k.width m start) in
      when is_array f then array_at m start f else beside f.names (classify k (is_optional f) value)

  -- "An element with since above v is absent, even where the block has octets for it."
  unfoldable pub read_field : ℕ → Field → Answer
  read_field at f = when leb f.since v then present_field at f else Absent

  -- The data of a block in order, and then n surplus ones.
  unfoldable pub read_datas : List Data → ℕ → ℕ → Result (List Answer × ℕ)
  read_datas [] n at = do
    x ← skip_datas big m n at
    done ([], x)
  read_datas (d ∷ ds) n at = do
    (a, x) ← when leb d.since v then read_data big m at else done (Absent, at)
    (rest, y) ← read_datas ds n x
    done (a ∷ rest, y)

  -- "an entry is its block, its groups, its data", and so is the root: the block of l octets, the groups that f reads,
  -- the data with n surplus ones.
  unfoldable pub read_block : Shape → (ℕ → Result (Values × ℕ)) → ℕ → ℕ → ℕ → Result Entry
  read_block s f n l at = do
    _ ← must (leb (at + l) (length m)) PastTheEnd at
    (gs, x) ← f (at + l)
    (ds, y) ← read_datas s.datas n x
    done (map (read_field at) s.fields, gs, ds, y)

-- `version` is the book's.
module _ (counted : Bool) (version : ℕ) (big : Bool) (m : List ℕ) (v : ℕ) where
  -- A group that is present. Its entries' groups have these sinces; f reads them and so many surplus ones. "A block
  -- length on the wire is at least the need, also for a group of zero entries; octets beyond are skipped." "after 18
  -- come 21 for counts of a known group", then its entries.
  unfoldable pub read_group : Shape → List ℕ → (ℕ → ℕ → Result (Values × ℕ)) → ℕ → Result (Answer × Values × ℕ)
  read_group s groups f at = do
    let datas = data_sinces s.datas
    d ← read_dimension counted big m at
    _ ← must (leb (need v s) d.length) GroupBlockShort at
    _ ← must (count_good counted version v groups d.groups and count_good counted version v datas d.datas) GroupCountsWrong at
    let block = read_block big m v s (f (surplus v groups d.groups)) (surplus v datas d.datas) d.length
    (es, x) ← read_entries d.entries block (at + dimension_size counted)
    done (Group d.entries, es, x)

  -- The groups of a block in order, and then n surplus ones, `levels` levels being left.
  unfoldable pub read_groups : Groups → ℕ → ℕ → ℕ → Result (Values × ℕ)
  read_groups none levels n at = do
    x ← in_row n (skip_group counted big m levels) at
    done (nil, x)
  read_groups (more i since s inner rest) levels n at = do
    let known = read_group s (group_sinces inner) (read_groups inner (inside levels))
    (a, es, x) ← when leb since v then known at else done (Absent, nil, at)
    (gs, y) ← read_groups rest levels n x
    done (group a es gs, y)

-- ---- the whole message

-- "11: a header number is 65535 | offset of the first such": n numbers from `at` on.
unfoldable pub header_whole : Bool → List ℕ → ℕ → ℕ → Result (Unit {0})
header_whole big m zero at = done tt
header_whole big m (suc n) at = must (ltb (number16 big m at) null16) HeaderNull at >>= λ _. header_whole big m n (at + 2)

-- 10 to 12: "message under 12 or over 65,535 octets", 11, "schema id differs".
unfoldable pub check_header : Bool → ℕ → List ℕ → Result (Unit {0})
check_header big schema m = do
  _ ← must (leb header_size (length m) and leb (length m) most_message) MessageSize 0
  _ ← header_whole big m header_numbers 0
  must (eqb (schema_id big m) schema) SchemaDiffers 4

-- 13: "template unknown".
abbrev pub template_of : Book → List ℕ → Result Template
template_of b m = or_refuse (find_template (template_id b.format.big m) b.templates) TemplateUnknown 2

-- 14 and 15, by the message's template and the book's version: how many groups and data of the root the header counts
-- beyond those that are present.
unfoldable pub surplus_of : Bool → ℕ → Template → List ℕ → Result (ℕ × ℕ)
surplus_of big version t m = do
  let v = version_of big m
  let groups = group_sinces t.groups
  let datas = data_sinces t.shape.datas
  _ ← must (leb (need v t.shape) (block_length big m)) RootBlockShort 0
  _ ← must (count_good true version v groups (group_count big m)) CountsWrong 8
  _ ← must (count_good true version v datas (data_count big m)) CountsWrong 10
  done (surplus v groups (group_count big m), surplus v datas (data_count big m))

-- 16 to 22: the root block and what follows it, up to the message's end.
unfoldable pub read_whole : Format → ℕ → Template → List ℕ → ℕ × ℕ → Result Values
read_whole format version t m (groups, datas) = do
  let big = format.big
  let v = version_of big m
  let root = read_groups format.in_groups version big m v t.groups depth_limit groups
  (fs, gs, ds, e) ← read_block big m v t.shape root datas (block_length big m) header_size
  _ ← must (eqb e (length m)) OctetsLeftOver e
  done (entry fs gs ds nil)

unfoldable pub read_root : Format → ℕ → Template → List ℕ → Result Values
read_root format version t m = surplus_of format.big version t m >>= read_whole format version t m

-- "Message: 10 to 15 in order, then the walk in wire order, first fault only."
unfoldable pub read_message : Book → List ℕ → Result Values
read_message b m = do
  _ ← check_header b.format.big b.schema m
  t ← template_of b m
  read_root b.format b.version t m
