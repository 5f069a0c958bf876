-- What each part of a listing writes, taken apart in the code's terms. That it was judged good is known: no test is
-- made.
use mathlib.Core.Path.{◌≡◌, refl, sym, ap, ◌∙◌}
use mathlib.Core.List.{List, [], ◌∷◌, ◌++◌, append-nil}
use mathlib.Core.Bool.{Bool, true, false}
use Prim.Native.Nat.{ℕ, suc, ◌+◌, ◌-◌, ◌*◌, ◌≤◌, ◌<◌, zero}
use native.Mathlib.Nat.{add-zero, sub-zero}
use native.Mathlib.Omega.{arith}
use lib.Dec.{eqb, ltb}
use lib.ListN.{drop, length, length-append, replicate, take}
use lib.Seq.{length-sets, sets}
use borrow.Rule.Slice.PartMut.{put_mid}
use borrow.Author.Tests.{eqb-false, eqb-true, le-ltb, leb-true, lt-ltb, ne_eqb}
use Rattle.layout.specs.Result.{done, when◌then◌else◌, ◌and◌}
use Rattle.layout.specs.Octets.{null16, octets_of}
use Rattle.layout.specs.Book.{Field, Groups, Shape, end, is_array, more, size}
use Rattle.layout.specs.BookRules.{fields_good, length_good, parse_fields, word}
use Rattle.layout.specs.Writing.{dimension_of, field_octets, first, is_group, is_number, is_there, judge_data, judge_field}
use Rattle.layout.specs.Writing.{numbers16, second, span_of, third}
use Rattle.layout.specs.declared.Answer.{Answer}
use Rattle.layout.proofs.Results.{and_left, and_right, each_way, or_right}
use Rattle.layout.proofs.Fields.{field_good_lem}
use Rattle.layout.proofs.Said.{ArraySaid, OctetsSaid, array_said, data_said, null, number_said, plain, text}
use Rattle.layout.proofs.Lengths.{field_long, span_long}
use Rattle.layout.proofs.Stands.{length_octets}
use Rattle.octets.proofs.Joined.{sets_append}
use Rattle.prepared.specs.Names.{lists_at}
use Rattle.prepared.specs.Positions.{Derived, IsBlock, field_at, many_fields, fields_from, groups_at}
use Rattle.prepared.proofs.Open.{no_groups_at}
use Rattle.prints.specs.Prints.{Accepted, Printed, Room, Stored, and_then, end_of, got, not, numbers_of, prepend, printed}
use Rattle.prints.proofs.Going.{Done, Going, going_end, stored_none, was_done}
use Rattle.writer.specs.Zeros.{ZerosFrom}
use Rattle.writer.specs.Parts.{data_part, datas_part, entries_part, fields_part, groups_part, number_or, value_part}
use Rattle.writer.proofs.Zeros.{going_pad, part_put, part_of, zeros_after, zeros_fill}

-- ---- records

there_is : (l : List ℕ) (i : ℕ) (t : Bool) → (is_there l i and t) ≡ true → 3 * i + 3 ≤ length l
there_is l i t h = leb-true (3 * i + 3) (length l) (and_left _ _ h)

-- A number's record says 0, or else 1.
not_zero : (l : List ℕ) (i : ℕ) → is_number l i ≡ true → (first l i ≡ 0 → ⊥) → first l i ≡ 1
not_zero l i h k =
    eqb-true (first l i) 1 (and_left _ _ (or_right _ _ (and_right _ _ (and_right _ _ h)) (ne_eqb (first l i) 0 k)))

module _ (l pool : List ℕ) (i : ℕ) where
  -- The octets that record i names.
  abbrev span_at : List ℕ
  span_at = take (third l i) (drop (second l i) pool)

  -- The array f is these octets, none if it is null, and zeros after them.
  record ArrayIs (f : Field) (a : Answer) : Type 0 where
    there : 3 * i + 3 ≤ length l
    within : second l i + third l i ≤ length pool
    octets : (big : Bool) → field_octets big pool f a ≡ span_at ++ replicate (f.length - third l i) 0

  octets_are : {f : Field} {a : Answer} → OctetsSaid l pool i a → ArrayIs f a
  unfolding field_octets span_of
  octets_are s = record { there = there_is l i _ s.kind; within = s.within; octets = λ big. rw (← s.is) refl }

  array_is : (f : Field) (a : Answer) → is_array f ≡ true → ArraySaid l pool f i a → ArrayIs f a
  unfolding field_octets when◌then◌else◌
  array_is f a y (null c n o e) =
      let unused = and_right _ _ (and_right _ _ n) in
      let start = eqb-true (second l i) 0 (and_left _ _ unused) in
      let none = eqb-true (third l i) 0 (and_right _ _ unused) in
      record { there = there_is l i _ n; within = omega arith; octets = λ big. rw (← e, y, none, sub-zero) refl }
  array_is f a y (text c s h) = octets_are s
  array_is f a y (plain c s h) = octets_are s

-- ---- one field

-- An attribute can name this, and no operator: what is chosen by a test.
unfoldable pub choices : Unit {0}
unfolding when◌then◌else◌
choices = tt

module _ (big : Bool) (l pool : List ℕ) (f : Field) (i : ℕ) where
  value_done : Accepted (value_part big l pool f i) → Done (judge_field l pool f i)
  unfolding value_part
  value_done h = was_done _ _ _ h

  value_same : (r : Done (judge_field l pool f i)) → value_part big l pool f i ≡ got (i + 1) (field_octets big pool f r.value)
  unfolding value_part printed
  value_same r = rw r.is refl

  array_done : is_array f ≡ true → (r : Done (judge_field l pool f i)) → ArrayIs l pool i f r.value
  array_done y r = array_is l pool i f _ y (array_said l pool f i _ y r.is)

  -- It is as long as its size says.
  pub value_stored : length_good f ≡ true → Accepted (value_part big l pool f i) → {d d' : List ℕ}
      → d' ≡ sets d 0 (numbers_of (value_part big l pool f i))
      → Stored (value_part big l pool f i) 0 d (i + 1) (size f) d'
  unfolding end_of numbers_of
  value_stored g h q =
      let r = value_done h in
      let long = field_long big l pool f i r.value g r.is in
      record { place = rw (value_same r) refl; taken = rw (value_same r) (omega (arith, long)); room = q }

  module _ (k : ℕ) (r : Room (value_part big l pool f i) 0 k) where
    -- Its record is there.
    pub value_there : 3 * i + 3 ≤ length l
    value_there =
        let y = value_done r.whole in
        each_way (is_array f) (λ a. (array_done a y).there) (λ a. there_is l i _ (number_said l pool f i _ a y.is).kind)

    -- e is laid, which fits.
    laid_is : {e : List ℕ} → field_octets big pool f (value_done r.whole).value ≡ e
        → (numbers_of (value_part big l pool f i) ≡ e) × (length e ≤ k)
    unfolding numbers_of
    laid_is q =
        let same = rw q at (value_same (value_done r.whole)) in
        (rw same refl, omega (arith, rw same at r.fits))

    -- A number, or the type's null.
    pub number_laid : {p : List ℕ} {t : ℕ} → Derived p t f → f.length ≤ 1
        → (numbers_of (value_part big l pool f i) ≡ octets_of big (word p (t + 4)) (number_or l i (word p (t + 3))))
        × (word p (t + 4) ≤ k)
    unfolding when◌then◌else◌ field_octets
    number_laid {p} {t} d h =
        let single = le-ltb 1 f.length h in
        let said = number_said l pool f i _ single (value_done r.whole).is in
        let e = octets_of big (word p (t + 4)) (number_or l i (word p (t + 3))) in
        let o : (numbers_of (value_part big l pool f i) ≡ e) × (length e ≤ k) =
        laid_is (rw (← said.is, d.width, d.null) (each_way (eqb (first l i) 0)
        (λ z. rw (z, eqb-true (first l i) 0 z) refl)
        (λ z. rw (z, not_zero l i said.kind (eqb-false (first l i) 0 z)) (rw single refl)))) in
        (o.0, omega (arith, o.1, length_octets big (word p (t + 4)) (number_or l i (word p (t + 3)))))

    -- An array is octets of the pool, and zeros that stand already.
    pub array_laid : {d : List ℕ} → ZerosFrom 0 d → 1 < f.length
        → (sets d 0 (numbers_of (value_part big l pool f i)) ≡ sets d 0 (span_at l pool i))
        × (third l i ≤ k) × (second l i + third l i ≤ length pool)
    array_laid zeros h =
        let s = array_done (lt-ltb 1 f.length h) (value_done r.whole) in
        let o = laid_is (s.octets big) in
        let both = length-append (span_at l pool i) (replicate (f.length - third l i) 0) in
        let long = span_long pool (second l i) (third l i) s.within in
        (rw o.0 (zeros_fill zeros (span_at l pool i) _), omega (arith, o.1, both, long), s.within)

-- ---- fields in a row

module _ (p : List ℕ) (a : ℕ) where
  -- The fields of the block at a from field k on.
  abbrev pub fields_after : ℕ → List Field
  fields_after k = parse_fields (lists_at p) p (many_fields p a - k) (fields_from p a + 7 * k)

  -- They are good from octet `at` of the block on.
  pub record FieldsLeft (k at : ℕ) : Type 0 where
    pub within : at ≤ word p (a + 2)
    pub good : fields_good (word p (a + 2)) at (fields_after k) ≡ true

  pub fields_left : IsBlock p a → FieldsLeft 0 0
  fields_left b = record { within = omega arith; good = rw (sub-zero, add-zero) (and_right _ _ b.good) }

  -- The first of them, and the others.
  pub record FieldNext (k at : ℕ) : Type 0 where
    pub placed : at ≤ word p (fields_from p a + 7 * k + 3)
    pub whole : length_good (field_at p (fields_from p a + 7 * k)) ≡ true
    pub rest : FieldsLeft (k + 1) (end (field_at p (fields_from p a + 7 * k)))

  module _ {k : ℕ} (h : k < many_fields p a) where
    fields_more : fields_after k ≡ field_at p (fields_from p a + 7 * k) ∷ fields_after (k + 1)
    unfolding parse_fields
    fields_more =
        let n : many_fields p a - k ≡ suc (many_fields p a - (k + 1)) = omega arith in
        let f : fields_from p a + 7 * (k + 1) ≡ fields_from p a + 7 * k + 7 = omega arith in
        rw (n, f) refl

    pub field_next : {at : ℕ} → FieldsLeft k at → FieldNext k at
    field_next {at} w =
        let f = field_at p (fields_from p a + 7 * k) in
        let g = field_good_lem (word p (a + 2)) at f (fields_after (k + 1)) (rw fields_more at w.good) in
        record { placed = g.placed; whole = g.length; rest = record { within = g.ended; good = g.rest } }

    pub fields_step : (big : Bool) (l pool : List ℕ) (len at i : ℕ) → fields_part big l pool len at (fields_after k) i
        ≡ prepend (replicate (word p (fields_from p a + 7 * k + 3) - at) 0)
        (and_then (value_part big l pool (field_at p (fields_from p a + 7 * k)) i)
        (fields_part big l pool len (end (field_at p (fields_from p a + 7 * k))) (fields_after (k + 1))))
    unfolding fields_part
    fields_step big l pool len at i = rw fields_more refl

  pub fields_end : (big : Bool) (l pool : List ℕ) (len at k i : ℕ) → many_fields p a ≤ k
      → fields_part big l pool len at (fields_after k) i ≡ prepend (replicate (len - at) 0) (got i [])
  unfolding parse_fields fields_part prepend
  fields_end big l pool len at k i h =
      let n : many_fields p a - k ≡ 0 = omega arith in rw (n, append-nil) refl

-- The next field is to come in a room that is filled from n on: the zeros before it stand.
module _ (p : List ℕ) (a k : ℕ) (big : Bool) (l pool : List ℕ) (i : ℕ) where
  abbrev pub field_here : Field
  field_here = field_at p (fields_from p a + 7 * k)

  pub record FieldOpen (x : Printed) (n n₀ : ℕ) (d₀ d : List ℕ) : Type 0 where
    pub going : Going x (and_then (value_part big l pool field_here i)
        (fields_part big l pool (word p (a + 2)) (end field_here) (fields_after p a (k + 1)))) n₀ d₀ (n + field_here.offset) d
    pub zeros : ZerosFrom (n + field_here.offset) d
    pub whole : length_good field_here ≡ true
    pub rest : FieldsLeft p a (k + 1) (end field_here)

  pub field_open : {x : Printed} {at n n₀ : ℕ} {d₀ d : List ℕ} → k < many_fields p a → FieldsLeft p a k at → ZerosFrom (n + at) d
      → Going x (fields_part big l pool (word p (a + 2)) at (fields_after p a k) i) n₀ d₀ (n + at) d → FieldOpen x n n₀ d₀ d
  field_open {x} {at} h w z g =
      let o = field_next p a h w in
      record {
        going = going_pad z g (field_here.offset - at) (fields_step p a h big l pool (word p (a + 2)) at i) (omega (arith, o.placed));
        zeros = zeros_after z (omega (arith, o.placed));
        whole = o.whole;
        rest = o.rest;
      }

-- Behind the last field zeros stand up to the block's end.
pub fields_over : (p : List ℕ) (a k : ℕ) (big : Bool) (l pool : List ℕ) (i n : ℕ) {x : Printed} {at n₀ : ℕ} {d₀ d : List ℕ}
    → many_fields p a ≤ k → FieldsLeft p a k at → ZerosFrom (n + at) d
    → Going x (fields_part big l pool (word p (a + 2)) at (fields_after p a k) i) n₀ d₀ (n + at) d
    → Stored x n₀ d₀ i (n + word p (a + 2)) d
fields_over p a k big l pool i n {x} {at} h w z g =
    going_end (going_pad z g (word p (a + 2) - at) (fields_end p a big l pool (word p (a + 2)) at k i h) (omega (arith, w.within)))
    (stored_none refl)

module _ (big : Bool) (l pool : List ℕ) where
  -- ---- data

  -- The data of record i, and a room of k octets.
  pub record DataOpen (i k : ℕ) : Type 0 where
    pub there : 3 * i + 3 ≤ length l
    pub within : second l i + third l i ≤ length pool
    pub long : length (span_at l pool i) ≡ third l i
    pub fits : 2 + third l i ≤ k
    pub same : data_part big l pool i ≡ got (i + 1) (octets_of big 2 (third l i) ++ span_at l pool i)

  data_done : (i : ℕ) → Accepted (data_part big l pool i) → Done (judge_data l pool i)
  unfolding data_part
  data_done i r = was_done _ _ _ r

  pub data_open : {i k : ℕ} → Room (data_part big l pool i) 0 k → DataOpen i k
  unfolding data_part printed span_of numbers_of
  data_open {i} r =
      let d = data_done i r.whole in
      let s = (data_said l pool i d.value d.is).0 in
      let same : data_part big l pool i ≡ got (i + 1) (octets_of big 2 (third l i) ++ span_at l pool i) =
      rw (d.is ∙ ap done (sym s.is)) refl in
      let long = span_long pool (second l i) (third l i) s.within in
      let both = length-append (octets_of big 2 (third l i)) (span_at l pool i) in
      record {
        there = there_is l i _ s.kind;
        within = s.within;
        long = long;
        fits = omega (arith, rw same at r.fits, both, length_octets big 2 (third l i), long);
        same = same;
      }

  -- Its length is stored, and its octets in the part that follows.
  pub data_laid : {i : ℕ} {d₀ d ys : List ℕ} → DataOpen i (length d₀) → d ≡ sets d₀ 0 (octets_of big 2 (third l i))
      → ys ≡ sets (part_of 2 d) 0 (span_at l pool i)
      → Stored (data_part big l pool i) 0 d₀ (i + 1) (2 + third l i) (put_mid 2 (length d - 2) d ys)
  unfolding end_of numbers_of
  data_laid {i} {d₀} {d} {ys} o p q =
      let n = octets_of big 2 (third l i) in
      let long = ap length p ∙ length-sets d₀ 0 n in
      let both = length-append n (span_at l pool i) in
      let two = length_octets big 2 (third l i) in
      record {
        place = rw o.same refl;
        taken = rw o.same (omega (arith, both, two, o.long));
        room = part_put 2 d (span_at l pool i) ys (omega (arith, o.fits, o.long, long)) q
            ∙ rw (o.same, sets_append d₀ 0 n (span_at l pool i), two, ← p) refl;
      }

  pub datas_step : (n k i : ℕ) → k < n
      → datas_part big l pool (n - k) i ≡ and_then (data_part big l pool i) (datas_part big l pool (n - (k + 1)))
  unfolding datas_part
  datas_step n k i h =
      let more : n - k ≡ suc (n - (k + 1)) = omega arith in rw more refl

  pub datas_end : (n i : ℕ) → n ≡ 0 → datas_part big l pool n i ≡ got i []
  unfolding datas_part
  datas_end n i h = rw h refl

  -- ---- entries

  module _ (s : Shape) (row : ℕ → Printed) where
    pub entries_step : (n i : ℕ) → 0 < n → entries_part big l pool s row n i
        ≡ and_then (fields_part big l pool s.length 0 s.fields i)
        (λ j. and_then (row j)
        (λ d. and_then (datas_part big l pool (length s.datas) d) (entries_part big l pool s row (n - 1))))
    unfolding entries_part
    entries_step zero i h = absurd (omega arith)
    entries_step (suc n) i h =
        let fewer : suc n - 1 ≡ n = omega arith in rw fewer refl

    pub entries_end : (n i : ℕ) → n ≡ 0 → entries_part big l pool s row n i ≡ got i []
    unfolding entries_part
    entries_end n i h = rw h refl

-- ---- groups in a row

module _ (counted big : Bool) (l pool : List ℕ) where
  pub groups_end : (p : List ℕ) (depth n a i : ℕ) → n ≤ 0
      → groups_part counted big l pool (groups_at p depth n a) i ≡ got i []
  unfolding groups_part
  groups_end p depth n a i h = rw (no_groups_at p depth n a h) refl

  -- gs is a group with the block s and the groups `inner`, and then `rest`.
  module _ (gs : Groups) (s : Shape) (inner rest : Groups) (i : ℕ) where
    abbrev group_then : Printed
    group_then =
        and_then (got (i + 1) (numbers16 big (dimension_of counted s inner (second l i))))
        (λ j. and_then (entries_part big l pool s (groups_part counted big l pool inner) (second l i) j)
        (groups_part counted big l pool rest))

    pub record GroupOpen : Type 0 where
      pub there : 3 * i + 3 ≤ length l
      pub same : groups_part counted big l pool gs i ≡ group_then

    pub group_open : {id since : ℕ} → gs ≡ more id since s inner rest → Accepted (groups_part counted big l pool gs i)
        → GroupOpen
    unfolding groups_part when◌then◌else◌ end_of numbers_of
    group_open is r = go (is_group l i and ltb (second l i) null16) refl (rw is at r)
      where
        go : (b : Bool) → (is_group l i and ltb (second l i) null16) ≡ b → Accepted (when b then group_then else not)
            → GroupOpen
        go true q h = record { there = there_is l i _ (and_left _ _ q); same = rw (is, q) refl }
        go false q h = absurd (let z : ◌≡◌ {A = ℕ} 0 1 = cc h in omega arith)
