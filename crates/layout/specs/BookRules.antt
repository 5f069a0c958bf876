-- From a book's octets to its tree, or the refusal 1 to 7: "lowest number found in any template, then the first
-- template that has it".
use Rattle.std.specs.Prelude.{Bool, not, true, false, List, [], ◌∷◌, map, ℕ, zero, suc, ◌+◌, ◌-◌, ◌*◌, ◌%◌, leb, ltb, eqb, length, get_or, take, drop}
use Rattle.layout.specs.Result.{Result, done, refused, ◌>>=◌, must, as_refusal, ◌and◌, ◌or◌, when◌then◌else◌}
use Rattle.layout.specs.Octets.{words_of, null16}
use Rattle.layout.specs.Types.{type_at}
use Rattle.layout.specs.Lists.{Kind, NameList, enumeration, find_names, free, is_one_of, missing, set}
use Rattle.layout.specs.Book.{Book, Data, Field, Format, Groups, Shape, Template, data_sinces, end, field_sinces}
use Rattle.layout.specs.Book.{group_sinces, is_array, more, none}
use Rattle.layout.specs.Message.{dimension_size, header_size, most_message}
use Rattle.layout.specs.declared.Reason.{Reason}
use Rattle.layout.specs.declared.Reason.TheVariants.{BookBlock, BookContents, BookHead, BookLayout, BookSince, BookSize, BookUnsendable}

abbrev pub word : List ℕ → ℕ → ℕ
word b w = get_or b w 0

-- ---- 4: the tree of a body, ls being the book's lists, b the body's words and w one of them

-- Its seven words, and the names that the last of them leads to.
abbrev pub field_at : List NameList → List ℕ → ℕ → Field
field_at ls b w =
    record {
      id = word b w;
      type = word b (w + 1);
      length = word b (w + 2);
      offset = word b (w + 3);
      presence = word b (w + 4);
      since = word b (w + 5);
      list = word b (w + 6);
      names = find_names (word b (w + 6)) ls;
    }

unfoldable pub parse_fields : List NameList → List ℕ → ℕ → ℕ → List Field
parse_fields ls b zero w = []
parse_fields ls b (suc n) w = field_at ls b w ∷ parse_fields ls b n (w + 7)

unfoldable pub parse_datas : List ℕ → ℕ → ℕ → List Data
parse_datas b zero w = []
parse_datas b (suc n) w = record { id = word b w; since = word b (w + 1) } ∷ parse_datas b n (w + 2)

-- "Block: declared block length, number of fields (at most 64), of groups (at most 16), of data (at most 16); then the
-- fields, the data, the groups": what precedes the groups, how many they are, and the word where they start. The block
-- has at least `few` fields.
unfoldable pub parse_shape : List NameList → List ℕ → ℕ → ℕ → Result (Shape × ℕ × ℕ)
parse_shape ls b few w = do
  _ ← must (leb (w + 4) (length b)) BookBlock 0
  let f = word b (w + 1)
  let g = word b (w + 2)
  let d = word b (w + 3)
  let fields_at = w + 4
  let datas_at = fields_at + 7 * f
  let groups_at = datas_at + 2 * d
  _ ← must (leb few f and leb f 64 and leb g 16 and leb d 16) BookBlock 0
  _ ← must (leb groups_at (length b)) BookBlock 0
  done (record { length = word b w; fields = parse_fields ls b f fields_at; datas = parse_datas b d datas_at }, g, groups_at)

-- n groups in a row, `depth` more levels being left, and the word after them. "A group has at least one field."
unfoldable pub parse_groups : List NameList → List ℕ → ℕ → ℕ → ℕ → Result (Groups × ℕ)
parse_groups ls b zero zero w = done (none, w)
parse_groups ls b (suc depth) zero w = done (none, w)
parse_groups ls b zero (suc n) w = refused BookBlock 0
parse_groups ls b (suc depth) (suc n) w = do
  (s, g, x) ← parse_shape ls b 1 (w + 2)
  (inner, y) ← parse_groups ls b depth g x
  (rest, z) ← parse_groups ls b (suc depth) n y
  done (more (word b w) (word b (w + 1)) s inner rest, z)

-- "A body is one block." "Groups nest to depth four, a root group being depth one." "4: .. body words left over"
unfoldable pub parse_body : List NameList → List ℕ → Result (Shape × Groups)
parse_body ls b = do
  (s, g, x) ← parse_shape ls b 0 0
  (groups, y) ← parse_groups ls b 4 g x
  _ ← must (eqb y (length b)) BookBlock 0
  done (s, groups)

-- From `low` on, each above the one before.
unfoldable pub climbing : ℕ → List ℕ → Bool
climbing low [] = true
climbing low (n ∷ ns) = leb low n and climbing (suc n) ns

-- "4 for a list that is empty, over 64, not rising or of another kind word"
abbrev pub list_good : NameList → Bool
list_good l =
    ltb l.kind 2 and leb 1 (length l.numbers) and leb (length l.numbers) 64 and climbing 0 l.numbers

-- ---- 5: "block length, type, length, presence or offset rule"

-- "Length is 1; types 0 and 2 may have 2 to 1,024."
abbrev pub length_good : Field → Bool
length_good f =
    eqb f.length 1 or (leb 2 f.length and leb f.length 1024 and (eqb f.type 0 or eqb f.type 2))

-- The greatest of numbers that rise, as those of an accepted book's lists do.
abbrev pub greatest : List ℕ → ℕ
greatest ns = get_or ns (length ns - 1) 0

-- "values over char, uint8 or uint16, or bit numbers over an unsigned type. Arrays take no list." "5 also for a missing
-- list, a wrong type or a bit beyond the width"
unfoldable pub kind_good : Kind → Field → Bool
kind_good free f = true
kind_good missing f = false
kind_good enumeration f = not (is_array f) and is_one_of f.type (0 ∷ 2 ∷ 4 ∷ [])
kind_good set f =
    not (is_array f) and is_one_of f.type (2 ∷ 4 ∷ 6 ∷ 8 ∷ [])
    and ltb (greatest f.names.numbers) (8 * (type_at f.type).width)

abbrev pub names_good : Field → Bool
names_good f = kind_good f.names.kind f

-- "An offset is at least the end of the field before it; every end is at most the declared block length": a field of a
-- block of l octets, after one that ends at e.
abbrev pub field_good : ℕ → ℕ → Field → Bool
field_good l e f =
    ltb f.type 9 and length_good f and leb f.presence 1 and leb e f.offset and leb (end f) l and names_good f

unfoldable pub fields_good : ℕ → ℕ → List Field → Bool
fields_good l e [] = true
fields_good l e (f ∷ fs) = field_good l e f and fields_good l (end f) fs

-- "No block length .. is 65535."
abbrev pub shape_good : Shape → Bool
shape_good s = ltb s.length null16 and fields_good s.length 0 s.fields

unfoldable pub groups_good : Groups → Bool
groups_good none = true
groups_good (more i since s inner rest) = shape_good s and groups_good inner and groups_good rest

abbrev pub layout_good : Template → Bool
layout_good t = shape_good t.shape and groups_good t.groups

-- ---- 6: "Since: never above the schema version; never falling along the fields, the groups or the data of a block."

-- From `low` up to `high`.
unfoldable pub rising : ℕ → ℕ → List ℕ → Bool
rising high low [] = true
rising high low (s ∷ ss) = leb low s and leb s high and rising high s ss

-- The first field of a block has a since from `low` to `high`, those after it may be younger. In the root these are 0
-- and the version; in a group both are its own since: "its first field's since is the group's own".
unfoldable pub fields_since : ℕ → ℕ → ℕ → List ℕ → Bool
fields_since version low high [] = true
fields_since version low high (s ∷ ss) = leb low s and leb s high and rising version s ss

-- The block's data have sinces from `low` to `top`.
abbrev pub shape_since : ℕ → ℕ → ℕ → ℕ → Shape → Bool
shape_since version low high top s =
    fields_since version low high (field_sinces s.fields) and rising top low (data_sinces s.datas)

-- How young data and groups inside a group may be: "data and groups inside a group have the since of that group"; with
-- four-number dimensions they "may then have a since at or above the group's".
unfoldable pub youngest : Bool → ℕ → ℕ → ℕ
youngest counted version since = when counted then version else since

unfoldable pub groups_since : Bool → ℕ → ℕ → ℕ → Groups → Bool
groups_since counted version low high none = true
groups_since counted version low high (more i since s inner rest) =
    leb low since and leb since high and shape_since version since since (youngest counted version since) s
    and groups_since counted version since (youngest counted version since) inner
    and groups_since counted version since high rest

abbrev pub since_good : Bool → ℕ → Template → Bool
since_good counted version t =
    shape_since version 0 version version t.shape and groups_since counted version 0 version t.groups

-- ---- 7: "Templates that can never be sent"

-- "a header, the declared root block, one dimension per root group and two octets per root data": no message of a
-- template with this block and these groups is shorter.
abbrev pub least_length : Format → Shape → Groups → ℕ
least_length format s gs =
    header_size + s.length + dimension_size format.in_groups * length (group_sinces gs) + 2 * length s.datas

-- They do not "exceed 65,535 together".
abbrev pub length_kept : Format → Template → Bool
length_kept format t = leb (least_length format t.shape t.groups) most_message

-- ---- 1, 2 and 3, and the whole book

-- "Contents, three words per template: template id, first word of its body, words in its body"; "the contents name
-- [the lists] after the templates (rising numbers below 65535, first word, words ..)".
pub record ContentsRow : Type 0 where
  pub id : ℕ
  pub first : ℕ
  pub words : ℕ

unfoldable pub parse_contents : List ℕ → ℕ → ℕ → List ContentsRow
parse_contents b zero w = []
parse_contents b (suc n) w =
    record { id = word b w; first = word b (w + 1); words = word b (w + 2) } ∷ parse_contents b n (w + 3)

-- "Ids rise strictly. Bodies lie back to back in contents order": rows with ids from `low` on, the first body being at
-- word `at`, and the word after the last.
unfoldable pub contents_end : ℕ → ℕ → List ContentsRow → Result ℕ
contents_end low at [] = done at
contents_end low at (r ∷ rs) = do
  _ ← must (leb low r.id and ltb r.id null16 and eqb r.first at) BookContents 0
  contents_end (suc r.id) (at + r.words) rs

abbrev pub body_of : List ℕ → ContentsRow → List ℕ
body_of b r = take r.words (drop r.first b)

-- The templates of the rows, of which the first has number t.
unfoldable pub parse_bodies : List NameList → List ℕ → ℕ → List ContentsRow → Result (List Template)
parse_bodies ls b t [] = done []
parse_bodies ls b t (r ∷ rs) = do
  (s, gs) ← as_refusal (parse_body ls (body_of b r)) BookBlock t
  xs ← parse_bodies ls b (suc t) rs
  done (record { id = r.id; shape = s; groups = gs } ∷ xs)

-- The refusal for r at the first that fails the test, the first of these having number t.
unfoldable pub each_must : {A : Type 0} → (A → Bool) → Reason → ℕ → List A → Result (Unit {0})
each_must f r t [] = done tt
each_must f r t (x ∷ xs) = must (f x) r t >>= λ _. each_must f r (suc t) xs

-- "Head, four words: schema id, schema version, number of templates (1 to 64), number of words in the book"; "The head
-- gains a fifth word, the number of lists", "a sixth word, 0 little or 1 big", and "a further head word, 2 or 4".
abbrev pub head_size : ℕ
head_size = 7

abbrev pub contents_size : List ℕ → ℕ
contents_size b = 3 * (word b 2 + word b 4)

abbrev pub template_rows : List ℕ → List ContentsRow
template_rows b = parse_contents b (word b 2) head_size

abbrev pub list_rows : List ℕ → List ContentsRow
list_rows b = parse_contents b (word b 4) (head_size + 3 * word b 2)

-- The list of a row, as its words stand, and a book's lists.
abbrev pub name_list_of : List ℕ → ContentsRow → NameList
name_list_of b r = record { id = r.id; kind = word (body_of b r) 0; numbers = drop 1 (body_of b r) }

abbrev pub lists_of : List ℕ → List NameList
lists_of b = map (name_list_of b) (list_rows b)

abbrev pub head_good : List ℕ → Bool
head_good b =
    eqb (word b 3) (length b) and ltb (word b 0) null16 and ltb (word b 1) null16
    and leb 1 (word b 2) and leb (word b 2) 64 and leb (word b 5) 1 and leb (head_size + contents_size b) (length b)
    and (eqb (word b 6) 2 or eqb (word b 6) 4)

abbrev pub format_of : List ℕ → Format
format_of b = record { big = eqb (word b 5) 1; in_groups = eqb (word b 6) 4 }

-- "1: book octets odd, under 8 or over 8,192"
abbrev pub size_good : List ℕ → Bool
size_good octets = eqb (length octets % 2) 0 and leb 8 (length octets) and leb (length octets) 8192

-- Bodies lie "from the first word after the contents to the book's end", and "list bodies come last".
unfoldable pub check_contents : List ℕ → Result (Unit {0})
check_contents b = do
  lists_at ← contents_end 0 (head_size + contents_size b) (template_rows b)
  e ← contents_end 0 lists_at (list_rows b)
  must (eqb e (length b)) BookContents 0

-- The tree that a book's octets are of, by 1 to 4. 4 of a list is "placed at the number of templates plus the list's
-- position".
unfoldable pub tree_of : List ℕ → Result Book
tree_of octets = do
  _ ← must (size_good octets) BookSize 0
  let b = words_of octets
  _ ← must (head_good b) BookHead 0
  _ ← check_contents b
  let ls = lists_of b
  ts ← parse_bodies ls b 0 (template_rows b)
  _ ← each_must list_good BookBlock (word b 2) ls
  done (record { schema = word b 0; version = word b 1; format = format_of b; lists = ls; templates = ts })

-- 5, 6 and 7 of its templates.
unfoldable pub check_templates : Book → Result (Unit {0})
check_templates b = do
  _ ← each_must layout_good BookLayout 0 b.templates
  _ ← each_must (since_good b.format.in_groups b.version) BookSince 0 b.templates
  each_must (length_kept b.format) BookUnsendable 0 b.templates

unfoldable pub book_of : List ℕ → Result Book
book_of octets = do
  b ← tree_of octets
  _ ← check_templates b
  done b
