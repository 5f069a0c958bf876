-- "Its length is 12 plus the declared root block, 4 per group record, ..": what is written has the length that the
-- formula says.
use mathlib.Core.Path.{◌∙◌, ◌≡◌, ap, refl, subst, sym}
use mathlib.Core.Bool.{Bool, false, true}
use mathlib.Core.List.{List, [], ◌++◌, ◌∷◌}
use Prim.Native.Nat.{◌+◌, ◌-◌, ◌≤◌, suc, zero, ℕ}
use native.Mathlib.Omega.{arith}
use lib.Dec.{eqb}
use lib.ListN.{drop, length, length-append, length-drop, length-replicate, replicate, take}
use lib.Seq.{length-take-le}
use borrow.Author.Tests.{leb-true}
use Rattle.layout.specs.Result.{Result, done, when◌then◌else◌}
use Rattle.layout.specs.Octets.{octets_of}
use Rattle.layout.specs.Types.{type_at}
use Rattle.layout.specs.Book.{Book, Data, Field, Groups, Shape, Template, end, is_array, more, none, size}
use Rattle.layout.specs.BookRules.{fields_good, groups_good, layout_good, length_good}
use Rattle.layout.specs.Values.{Values, entry, group, nil}
use Rattle.layout.specs.Message.{Entry, count_numbers}
use Rattle.layout.specs.Writing.{block_octets, counts_of, data_octets, datas_length, dimension_of, entries_in}
use Rattle.layout.specs.Writing.{field_octets, first, header_of, judge_block, judge_data, judge_datas, judge_entries}
use Rattle.layout.specs.Writing.{judge_field, judge_fields, judge_groups, judge_listing, message_octets, numbers16}
use Rattle.layout.specs.Writing.{row_length, row_octets, second, span_octets, span_of, third, written_length}
use Rattle.layout.proofs.Said.{ArraySaid, array_said, data_said, null, number_said, plain, text}
use Rattle.layout.proofs.Fields.{field_good_lem, size_array, size_plain}
use Rattle.layout.proofs.Results.{and_left, and_right, done_inj, each_way, inv_bind, inv_both}
use Rattle.layout.proofs.Stands.{length_numbers, length_octets}
use Rattle.layout.specs.declared.Answer.{Answer}
use Rattle.layout.specs.declared.Answer.TheVariants.{Null, Number, Octets}

pub span_long : (pool : List ℕ) (start len : ℕ) → start + len ≤ length pool → length (take len (drop start pool)) ≡ len
span_long pool start len h = length-take-le len (drop start pool) (rw length-drop (omega arith))

filled_long : (xs : List ℕ) (n x : ℕ) → length (xs ++ replicate n x) ≡ length xs + n
filled_long xs n x = length-append xs (replicate n x) ∙ ap (λ k. length xs + k) (length-replicate n x)

module _ (big : Bool) (l pool : List ℕ) where
  -- ---- fields

  array_long : (f : Field) (start len : ℕ) → start + len ≤ length pool → len ≤ f.length
      → length (field_octets big pool f (Octets start len)) ≡ f.length
  unfolding field_octets span_of
  array_long f start len h k =
      filled_long (take len (drop start pool)) (f.length - len) _ ∙ omega (arith, span_long pool start len h)

  null_long : (f : Field) → is_array f ≡ true → length (field_octets big pool f Null) ≡ f.length
  unfolding field_octets when◌then◌else◌
  null_long f y = rw y (length-replicate {A = ℕ} f.length _)

  said_long : (f : Field) (i : ℕ) (a : Answer) → is_array f ≡ true → ArraySaid l pool f i a
      → length (field_octets big pool f a) ≡ f.length
  said_long f i a y (null c n o e) = rw (← e) (null_long f y)
  said_long f i a y (text c q h) =
      rw (← q.is)
      (array_long f (second l i) (third l i) q.within (leb-true (third l i) f.length (and_left _ _ h)))
  said_long f i a y (plain c q h) =
      rw (← q.is) (array_long f (second l i) (third l i) q.within (omega arith))

  number_long : (f : Field) (b : Bool) (x : ℕ) → is_array f ≡ false
      → length (field_octets big pool f (when b then Null else Number x)) ≡ (type_at f.type).width
  unfolding field_octets when◌then◌else◌
  number_long f true x y = rw y (length_octets big _ _)
  number_long f false x y = length_octets big _ _

  pub field_long : (f : Field) (i : ℕ) (a : Answer) → length_good f ≡ true → judge_field l pool f i ≡ done a
      → length (field_octets big pool f a) ≡ size f
  field_long f i a g e =
      each_way (is_array f)
      (λ y. said_long f i a y (array_said l pool f i a y e) ∙ sym (size_array f g y))
      (λ y. rw (← (number_said l pool f i a y e).is)
      (number_long f (eqb (first l i) 1) (second l i) y ∙ sym (size_plain f g y)))

  pub fields_long : (fs : List Field) (len from i : ℕ) (r : List Answer × ℕ) → fields_good len from fs ≡ true
      → from ≤ len
      → judge_fields l pool fs i ≡ done r → from + length (block_octets big pool len from fs r.0) ≡ len
  unfolding judge_fields block_octets
  fields_long [] len from i r g h e = rw (length-replicate {A = ℕ} (len - from)) (omega arith)
  fields_long (f ∷ fs) len from i r g h e =
      let p = inv_both _ _ _ _ e in
      let k = field_good_lem len from f fs g in
      let a = field_octets big pool f p.value in
      let b = block_octets big pool len (end f) fs p.other.0 in
      subst (λ (x : List Answer × ℕ). from + length (block_octets big pool len from (f ∷ fs) x.0) ≡ len)
      p.is
      (rw (
        length-append (replicate (f.offset - from) 0) (a ++ b),
        length-append a b,
        length-replicate {A = ℕ}
            (f.offset - from) 0,
      )
      (omega (
        arith,
        k.placed,
        field_long f i p.value k.length p.first,
        fields_long fs len (end f) (suc i) p.other k.rest k.ended p.second,
      )))

  -- ---- data

  pub data_long : (i : ℕ) (a : Answer) → judge_data l pool i ≡ done a → length (span_octets pool a) ≡ (span_of a).1
  unfolding span_of
  data_long i a e =
      let s = (data_said l pool i a e).0 in
      rw (← s.is) (span_long pool (second l i) (third l i) s.within)

  datas_long : (ds : List Data) (i : ℕ) (r : List Answer × ℕ) → judge_datas l pool ds i ≡ done r
      → length (data_octets big pool r.0) ≡ datas_length r.0
  unfolding judge_datas data_octets datas_length
  datas_long [] i r e = subst (λ (x : List Answer × ℕ). length (data_octets big pool x.0) ≡ datas_length x.0)
      (done_inj e) refl
  datas_long (d ∷ ds) i r e =
      let p = inv_both _ _ _ _ e in
      let n = octets_of big 2 (span_of p.value).1 in
      let a = span_octets pool p.value in
      let b = data_octets big pool p.other.0 in
      subst (λ (x : List Answer × ℕ). length (data_octets big pool x.0) ≡ datas_length x.0) p.is
      (rw (
        length-append n (a ++ b),
        length-append a b,
        length_octets big 2 (span_of p.value).1,
        data_long i p.value
            p.first,
      )
      (omega (arith, datas_long ds (suc i) p.other p.second)))

-- ---- rows

-- The counts, where there are any.
pub counts_long : (counted : Bool) (gs : Groups) (ds : List Data)
    → length (counts_of counted gs ds) ≡ count_numbers counted
unfolding counts_of when◌then◌else◌
counts_long true gs ds = refl
counts_long false gs ds = refl

module _ (counted big : Bool) (l pool : List ℕ) where
  abbrev Long : Shape → Groups → Values → Type 0
  Long s gs r = length (row_octets counted big pool s gs r) ≡ row_length counted s gs r

  entry_long : (s : Shape) (gs : Groups) (fs : List Answer) (g : Values) (ds : List Answer) (rest : Values)
      → length (block_octets big pool s.length 0 s.fields fs) ≡ s.length → Long s gs g
      → length (data_octets big pool ds) ≡ datas_length ds → Long s gs rest → Long s gs (entry fs g ds rest)
  unfolding row_octets row_length
  entry_long s gs fs g ds rest a b c d =
      let xs = block_octets big pool s.length 0 s.fields fs in
      let ys = row_octets counted big pool s gs g in
      rw (
        length-append (xs ++ (ys ++ data_octets big pool ds)) (row_octets counted big pool s gs rest),
        length-append xs (ys ++ data_octets big pool ds),
        length-append ys (data_octets big pool ds),
        a,
        b,
        c,
        d,
      ) (omega arith)

  module _ (s : Shape) (gs : Groups) (good : fields_good s.length 0 s.fields ≡ true) (f : ℕ → Result (Values × ℕ))
      (ih : (i : ℕ) (r : Values × ℕ) → f i ≡ done r → Long s gs r.0) where
    block_long : (i : ℕ) (b : Entry) (rest : Values) → judge_block l pool s f i ≡ done b → Long s gs rest
        → Long s gs (entry b.0 b.1 b.2 rest)
    unfolding judge_block
    block_long i b rest e h =
        let p = inv_bind _ _ _ e in
        let q = inv_both _ _ _ _ p.next in
        subst (λ (x : Entry). Long s gs (entry x.0 x.1 x.2 rest)) q.is
        (entry_long s gs p.value.0 q.value.0 q.other.0 rest
        (omega (arith, fields_long big l pool s.fields s.length 0 i p.value good (omega arith) p.first))
        (ih p.value.1 q.value q.first) (datas_long big l pool s.datas q.value.1 q.other
        q.second) h)

    entries_long : (k i : ℕ) (r : Values × ℕ)
        → judge_entries l pool k (judge_block l pool s f) i ≡ done r
        → Long s gs r.0
    unfolding judge_entries
    entries_long zero i r e = subst (λ (x : Values × ℕ). Long s gs x.0) (done_inj e)
        (unfold row_octets row_length in refl)
    entries_long (suc k) i r e =
        let p = inv_both _ _ _ _ e in
        subst (λ (x : Values × ℕ). Long s gs x.0) p.is
        (block_long i p.value p.other.0 p.first (entries_long k p.value.3 p.other p.second))

  group_long : (i since : ℕ) (s : Shape) (inner rest : Groups) (s₀ : Shape) (a : Answer) (es gs : Values)
      → Long s inner es
      → Long s₀ rest gs → Long s₀ (more i since s inner rest) (group a es gs)
  unfolding row_octets row_length
  group_long i since s inner rest s₀ a es gs x y =
      let d = dimension_of counted s inner (entries_in a) in
      let xs = row_octets counted big pool s inner es in
      let ys = row_octets counted big pool s₀ rest gs in
      rw (length-append (numbers16 big d) (xs ++ ys), length-append xs ys, length_numbers big d, x, y)
      (omega (arith, counts_long counted inner s.datas))

  groups_long : (gs : Groups) (s₀ : Shape) (i : ℕ) (r : Values × ℕ) → groups_good gs ≡ true
      → judge_groups l pool gs i ≡ done r → Long s₀ gs r.0
  unfolding judge_groups groups_good
  groups_long none s₀ i r g e = subst (λ (x : Values × ℕ). Long s₀ none x.0) (done_inj e)
      (unfold row_octets row_length in refl)
  groups_long (more id since s inner rest) s₀ i r g e =
      let p = inv_both _ _ _ _ (inv_bind _ _ _ (inv_bind _ _ _ e).next).next in
      let h = and_right _ _ g in
      subst (λ (x : Values × ℕ). Long s₀ (more id since s inner rest) x.0) p.is
      (group_long id since s inner rest s₀ _ p.value.0 p.other.0
      (entries_long s inner (and_right _ _ (and_left _ _ g)) (judge_groups l pool inner)
      (λ j x z. groups_long inner s j x (and_left _ _ h) z) (second l i) (suc i) p.value p.first)
      (groups_long rest s₀ p.value.1 p.other (and_right _ _ h) p.second))

-- The whole message.
pub written_long : (l pool : List ℕ) (b : Book) (t : Template) (r : Values) → layout_good t ≡ true
    → judge_listing l pool t ≡ done r
    → length (message_octets b t pool r) ≡ written_length b t r
unfolding judge_listing message_octets
written_long l pool b t r g e =
    let big = b.format.big in
    let p = inv_both _ _ _ _ e in
    let x = p.value in
    let counted = b.format.in_groups in
    let row = row_octets counted big pool t.shape t.groups (entry x.0 x.1 x.2 nil) in
    let long = block_long counted big l pool t.shape t.groups (and_right _ _ (and_left _ _ g))
    (judge_groups l pool t.groups)
    (λ j y z. groups_long counted big l pool t.groups t.shape j y (and_right _ _ g) z) 0 x nil p.first
    (unfold row_octets row_length in refl) in
    subst (λ (y : Values). length (message_octets b t pool y) ≡ written_length b t y) p.is
    (length-append (numbers16 big (header_of b t)) row
    ∙ omega (arith, length_numbers big (header_of b t), counts_long true t.groups t.shape.datas, long))
