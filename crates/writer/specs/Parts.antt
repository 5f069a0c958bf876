-- What each part of a listing that was judged good writes: its octets, and the record after it. l is the listing, and
-- `big` the order of the message's numbers.
use Rattle.std.specs.Prelude.{Bool, List, [], ◌++◌, ◌∷◌, ℕ, zero, suc, ◌+◌, ◌-◌, eqb, ltb, length, replicate}
use Rattle.layout.specs.Result.{◌and◌, when◌then◌else◌}
use Rattle.layout.specs.Octets.{null16, octets_of}
use Rattle.layout.specs.Book.{Book, Field, Groups, Shape, Template, end, more, none}
use Rattle.layout.specs.Writing.{dimension_of, field_octets, first, is_group, judge_data, judge_field, judge_listing}
use Rattle.layout.specs.Writing.{message_octets, numbers16, second, span_octets, span_of}
use Rattle.prepared.specs.Positions.{inner_at, is_big, is_counted, shape_at}
use Rattle.prints.specs.Prints.{Printed, and_then, got, not, prepend, printed}

-- The number of record i, or x where it is null.
abbrev pub number_or : List ℕ → ℕ → ℕ → ℕ
number_or l i x = when eqb (first l i) 0 then second l i else x

module _ (big : Bool) (l pool : List ℕ) where
  -- A field from record i.
  unfoldable pub value_part : Field → ℕ → Printed
  value_part f i = printed (λ a. i + 1) (field_octets big pool f) (judge_field l pool f i)

  -- Fields of a block of n octets, from its octet `at` on: zeros before each one, and zeros up to the block's end.
  unfoldable pub fields_part : ℕ → ℕ → List Field → ℕ → Printed
  fields_part n at [] i = got i (replicate (n - at) 0)
  fields_part n at (f ∷ fs) i =
      prepend (replicate (f.offset - at) 0) (and_then (value_part f i) (fields_part n (end f) fs))

  unfoldable pub data_part : ℕ → Printed
  data_part i =
      printed (λ a. i + 1) (λ a. octets_of big 2 (span_of a).1 ++ span_octets pool a) (judge_data l pool i)

  unfoldable pub datas_part : ℕ → ℕ → Printed
  datas_part zero i = got i []
  datas_part (suc n) i = and_then (data_part i) (datas_part n)

  -- k entries of a block s, whose groups `row` writes.
  unfoldable pub entries_part : Shape → (ℕ → Printed) → ℕ → ℕ → Printed
  entries_part s row zero i = got i []
  entries_part s row (suc k) i =
      and_then (fields_part s.length 0 s.fields i)
      (λ j. and_then (row j) (λ d. and_then (datas_part (length s.datas) d) (entries_part s row k)))

-- `counted`: whether dimensions have four numbers.
module _ (counted big : Bool) (l pool : List ℕ) where
  unfoldable pub groups_part : Groups → ℕ → Printed
  groups_part none i = got i []
  groups_part (more id since s inner rest) i =
      when is_group l i and ltb (second l i) null16
      then and_then (got (i + 1) (numbers16 big (dimension_of counted s inner (second l i))))
      (λ j. and_then (entries_part big l pool s (groups_part inner) (second l i) j) (groups_part rest)) else not

-- k entries of the block at a of a prepared book, and the dimension of so many at record i.
abbrev pub entries_at : List ℕ → List ℕ → List ℕ → ℕ → ℕ → ℕ → ℕ → Printed
entries_at l pool p depth a k i =
    entries_part (is_big p) l pool (shape_at p a) (groups_part (is_counted p) (is_big p) l pool (inner_at p depth a)) k i

abbrev pub dimension_at : List ℕ → ℕ → ℕ → ℕ → ℕ → Printed
dimension_at p depth a k i =
    got (i + 1) (numbers16 (is_big p) (dimension_of (is_counted p) (shape_at p a) (inner_at p depth a) k))

-- The whole message.
unfoldable pub message_part : List ℕ → List ℕ → Book → Template → Printed
message_part l pool b t = printed (λ r. 0) (message_octets b t pool) (judge_listing l pool t)
