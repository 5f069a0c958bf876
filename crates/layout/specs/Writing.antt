-- A message from a listing: its records judged one by one into a tree of answers (51 to 54), and the tree's octets.
use Rattle.std.specs.Prelude.{Bool, not, false, true, List, [], ◌++◌, ◌∷◌, ◌*◌, ◌+◌, ◌-◌, suc, zero, ℕ, eqb, leb, ltb, drop, get_or, length, replicate, take}
use Rattle.layout.specs.Result.{Result, ◌>>=◌, ◌and◌, ◌or◌, done, when◌then◌else◌, must, or_refuse}
use Rattle.layout.specs.Octets.{null16, octets_of, text_length}
use Rattle.layout.specs.Types.{in_range, type_at}
use Rattle.layout.specs.Lists.{has}
use Rattle.layout.specs.Book.{Book, Data, Field, Groups, Shape, Template, end, find_template, group_sinces, is_array}
use Rattle.layout.specs.Book.{is_char, is_optional, more, none}
use Rattle.layout.specs.BookRules.{book_of}
use Rattle.layout.specs.Values.{Values, entry, group, nil}
use Rattle.layout.specs.Message.{Entry, dimension_size, header_size, most_message}
use Rattle.layout.specs.declared.Answer.{Answer}
use Rattle.layout.specs.declared.Answer.TheVariants.{Number, Null, Octets, Absent, Group, OutOfRange, Unlisted}
use Rattle.layout.specs.declared.Reason.TheVariants.{EntriesTooMany, MessageTooLong, OctetsWrong, RecordWrong, ValueWrong, WriteTemplateUnknown}

-- A number that a field takes: 52 is for a number that "is null or out of range", or that the field's list lacks.
abbrev pub takes : Field → ℕ → Bool
takes f x =
    let k = type_at f.type in
    in_range k x and not (eqb x k.null) and has f.names x

-- ---- 51: record i of the listing l

module _ (l : List ℕ) where
  abbrev pub first : ℕ → ℕ
  first i = get_or l (3 * i) 0

  abbrev pub second : ℕ → ℕ
  second i = get_or l (3 * i + 1) 0

  abbrev pub third : ℕ → ℕ
  third i = get_or l (3 * i + 2) 0

  -- "record missing, left over or partial"
  abbrev pub is_there : ℕ → Bool
  is_there i = leb (3 * i + 3) (length l)

  -- "wrong kind for its element (3 and 5 always, 1 for an array), or an unused number not 0"; "the writer takes 6 as
  -- 51", and a char array takes 1
  abbrev pub is_number : ℕ → Bool
  is_number i = is_there i and eqb (third i) 0 and (eqb (first i) 0 or (eqb (first i) 1 and eqb (second i) 0))

  abbrev pub is_null : ℕ → Bool
  is_null i = is_there i and eqb (first i) 1 and eqb (second i) 0 and eqb (third i) 0

  abbrev pub is_octets : ℕ → Bool
  is_octets i = is_there i and eqb (first i) 2

  abbrev pub is_group : ℕ → Bool
  is_group i = is_there i and eqb (first i) 4 and eqb (third i) 0

  -- 52: as above, or "null for a required field"
  abbrev pub number_fits : Field → ℕ → Bool
  number_fits f i = when eqb (first i) 1 then is_optional f else takes f (second i)

-- ---- 51 to 54, in the listing's order

module _ (l : List ℕ) where
  unfoldable pub judge_number : Field → ℕ → Result Answer
  judge_number f i = do
    _ ← must (is_number l i) RecordWrong i
    _ ← must (number_fits l f i) ValueWrong i
    done (when eqb (first l i) 1 then Null else Number (second l i))

  -- An optional text "now takes null; 52 for null in a required one".
  unfoldable pub judge_null : Field → ℕ → Result Answer
  judge_null f i = do
    _ ← must (is_null l i) RecordWrong i
    _ ← must (is_optional f) ValueWrong i
    done Null

-- Octets are those of a pool.
module _ (l pool : List ℕ) where
  -- "53: start plus length past the pool's end, length not the field's, or data over 65,534": octets, whose length
  -- `fits`.
  unfoldable pub judge_octets : Bool → ℕ → Result Answer
  judge_octets fits i = do
    _ ← must (is_octets l i) RecordWrong i
    _ ← must (leb (second l i + third l i) (length pool) and fits) OctetsWrong i
    done (Octets (second l i) (third l i))

  -- "53 for a text longer than its field, with a NUL in it, or empty for an optional field"
  abbrev pub text_fits : Field → ℕ → Bool
  text_fits f i =
      leb (third l i) f.length and eqb (text_length (take (third l i) (drop (second l i) pool))) (third l i)
      and not (is_optional f and eqb (third l i) 0)

  abbrev pub judge_text : Field → ℕ → Result Answer
  judge_text f i = when eqb (first l i) 1 then judge_null l f i else judge_octets (text_fits f i) i

  unfoldable pub judge_array : Field → ℕ → Result Answer
  judge_array f i = when is_char f then judge_text f i else judge_octets (eqb (third l i) f.length) i

  abbrev pub judge_field : Field → ℕ → Result Answer
  judge_field f i = when is_array f then judge_array f i else judge_number l f i

  abbrev pub judge_data : ℕ → Result Answer
  judge_data i = judge_octets (ltb (third l i) null16) i

  -- What a row of elements is, from record i on, and the number of the next record.
  unfoldable pub judge_fields : List Field → ℕ → Result (List Answer × ℕ)
  judge_fields [] i = done ([], i)
  judge_fields (f ∷ fs) i = do
    a ← judge_field f i
    (rest, j) ← judge_fields fs (suc i)
    done (a ∷ rest, j)

  unfoldable pub judge_datas : List Data → ℕ → Result (List Answer × ℕ)
  judge_datas [] i = done ([], i)
  judge_datas (d ∷ ds) i = do
    a ← judge_data i
    (rest, j) ← judge_datas ds (suc i)
    done (a ∷ rest, j)

  unfoldable pub judge_entries : ℕ → (ℕ → Result Entry) → ℕ → Result (Values × ℕ)
  judge_entries zero f i = done (nil, i)
  judge_entries (suc k) f i = do
    (fs, gs, ds, j) ← f i
    (rest, e) ← judge_entries k f j
    done (entry fs gs ds rest, e)

  unfoldable pub judge_block : Shape → (ℕ → Result (Values × ℕ)) → ℕ → Result Entry
  judge_block s f i = do
    (fs, j) ← judge_fields s.fields i
    (gs, k) ← f j
    (ds, e) ← judge_datas s.datas k
    done (fs, gs, ds, e)

  -- "54: entries over 65,534"
  unfoldable pub judge_groups : Groups → ℕ → Result (Values × ℕ)
  judge_groups none i = done (nil, i)
  judge_groups (more id since s inner rest) i = do
    _ ← must (is_group l i) RecordWrong i
    let k = second l i
    _ ← must (ltb k null16) EntriesTooMany i
    (es, j) ← judge_entries k (judge_block s (judge_groups inner)) (suc i)
    (gs, e) ← judge_groups rest j
    done (group (Group k) es gs, e)

  -- "left-over records next"
  unfoldable pub judge_listing : Template → Result Values
  judge_listing t = do
    (fs, gs, ds, e) ← judge_block t.shape (judge_groups t.groups) 0
    _ ← must (eqb (3 * e) (length l)) RecordWrong e
    done (entry fs gs ds nil)

-- ---- the octets of a tree; starts refer to the pool

-- Header and dimensions: 16-bit numbers, one after the other.
unfoldable pub numbers16 : Bool → List ℕ → List ℕ
numbers16 big [] = []
numbers16 big (x ∷ xs) = octets_of big 2 x ++ numbers16 big xs

-- The start and length of octets.
unfoldable pub span_of : Answer → ℕ × ℕ
span_of (Octets start len) = (start, len)
span_of (Number x) = (0, 0)
span_of Null = (0, 0)
span_of Absent = (0, 0)
span_of (Group k) = (0, 0)
span_of (OutOfRange x) = (0, 0)
span_of (Unlisted x) = (0, 0)

-- The entries of a group.
unfoldable pub entries_in : Answer → ℕ
entries_in (Group k) = k
entries_in (Number x) = 0
entries_in Null = 0
entries_in (Octets start len) = 0
entries_in Absent = 0
entries_in (OutOfRange x) = 0
entries_in (Unlisted x) = 0

-- "the book's counts", where such blocks are counted: of groups and of data.
unfoldable pub counts_of : Bool → Groups → List Data → List ℕ
counts_of true gs ds = length (group_sinces gs) ∷ length ds ∷ []
counts_of false gs ds = []

-- The dimension of k entries of a block s with groups gs.
abbrev pub dimension_of : Bool → Shape → Groups → ℕ → List ℕ
dimension_of counted s gs k = s.length ∷ k ∷ counts_of counted gs s.datas

module _ (pool : List ℕ) where
  abbrev pub span_octets : Answer → List ℕ
  span_octets a = take (span_of a).1 (drop (span_of a).0 pool)

-- Numbers are written big-endian if `big`.
module _ (big : Bool) (pool : List ℕ) where
  -- A text is filled with NUL: "The writer fills with NUL."
  unfoldable pub field_octets : Field → Answer → List ℕ
  field_octets f (Number x) = octets_of big (type_at f.type).width x
  field_octets f Null =
      when is_array f then replicate f.length 0 else octets_of big (type_at f.type).width (type_at f.type).null
  field_octets f (Octets start len) = span_octets pool (Octets start len) ++ replicate (f.length - len) 0
  field_octets f Absent = []
  field_octets f (Group k) = []
  field_octets f (OutOfRange x) = []
  field_octets f (Unlisted x) = []

  -- "declared block lengths, .. and zero padding": a block of l octets, from its octet `at` on.
  unfoldable pub block_octets : ℕ → ℕ → List Field → List Answer → List ℕ
  block_octets l at [] as' = replicate (l - at) 0
  block_octets l at (f ∷ fs) [] = replicate (l - at) 0
  block_octets l at (f ∷ fs) (a ∷ as') =
      replicate (f.offset - at) 0 ++ (field_octets f a ++ block_octets l (end f) fs as')

  unfoldable pub data_octets : List Answer → List ℕ
  data_octets [] = []
  data_octets (a ∷ ds) = octets_of big 2 (span_of a).1 ++ (span_octets pool a ++ data_octets ds)

-- `counted`: whether dimensions have four numbers.
module _ (counted big : Bool) (pool : List ℕ) where
  -- A row: the entries of a block s with groups gs, or the groups gs of a block s.
  unfoldable pub row_octets : Shape → Groups → Values → List ℕ
  row_octets s gs nil = []
  row_octets s gs (entry fs g ds rest) =
      (block_octets big pool s.length 0 s.fields fs ++
      (row_octets s gs g ++ data_octets big pool ds)) ++ row_octets s gs rest
  row_octets s none (group a es rest) = []
  row_octets s (more i since sh inner gs) (group a es rest) =
      numbers16 big (dimension_of counted sh inner (entries_in a)) ++ (row_octets sh inner es ++ row_octets s gs rest)

-- "It writes the book's version, declared block lengths, the book's counts and zero padding."
abbrev pub header_of : Book → Template → List ℕ
header_of b t = t.shape.length ∷ t.id ∷ b.schema ∷ b.version ∷ counts_of true t.groups t.shape.datas

unfoldable pub message_octets : Book → Template → List ℕ → Values → List ℕ
message_octets b t pool r =
    numbers16 b.format.big (header_of b t)
    ++ row_octets b.format.in_groups b.format.big pool t.shape t.groups r

-- "Its length is 12 plus the declared root block, 4 per group record, the declared block per entry, and 2 plus its
-- length per data"; with four-number dimensions "8 per group record".
unfoldable pub datas_length : List Answer → ℕ
datas_length [] = 0
datas_length (a ∷ ds) = 2 + (span_of a).1 + datas_length ds

module _ (counted : Bool) where
  unfoldable pub row_length : Shape → Groups → Values → ℕ
  row_length s gs nil = 0
  row_length s gs (entry fs g ds rest) = s.length + (row_length s gs g + (datas_length ds + row_length s gs rest))
  row_length s none (group a es rest) = 0
  row_length s (more i since sh inner gs) (group a es rest) =
      dimension_size counted + (row_length sh inner es + row_length s gs rest)

abbrev pub written_length : Book → Template → Values → ℕ
written_length b t r = header_size + row_length b.format.in_groups t.shape t.groups r

-- "Writing: 50; then 51 to 54 at the first record at fault, 51 first within it; left-over records next; 55 last."
-- `room` is how many octets there is room for.
abbrev pub write_in : Book → ℕ → List ℕ → List ℕ → ℕ → Result (List ℕ)
write_in b id l pool room = do
  t ← or_refuse (find_template id b.templates) WriteTemplateUnknown 0
  r ← judge_listing l pool t
  let m = message_octets b t pool r
  _ ← must (leb (length m) room and leb (length m) most_message) MessageTooLong 0
  done m

unfoldable pub write_of : List ℕ → ℕ → List ℕ → List ℕ → ℕ → Result (List ℕ)
write_of book id l pool room = book_of book >>= λ b. write_in b id l pool room
