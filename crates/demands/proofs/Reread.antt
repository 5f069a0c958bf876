-- What is written is read again, block by block: "Round trips compare octets, not starts".
use mathlib.Core.Path.{◌∙◌, ◌≡◌, ap, refl, subst}
use mathlib.Core.Bool.{Bool, false, not, true}
use mathlib.Core.List.{List, [], ◌++◌, ◌∷◌, map}
use Prim.Native.Nat.{◌*◌, ◌+◌, ◌-◌, ◌<◌, ◌^◌, ◌≤◌, suc, zero, ℕ}
use native.Mathlib.Nat.{mod-eq_of_lt}
use native.Mathlib.Omega.{arith}
use lib.Dec.{eqb}
use lib.ListN.{drop, length, length-append, length-replicate, replicate, take}
use borrow.Author.Tests.{eq-eqb, eqb-true, le-leb, leb-true, lt-ltb, ltb-true, not-true}
use Rattle.layout.specs.Result.{Each, Result, ◌>>=◌, ◌and◌, done, when◌then◌else◌, must}
use Rattle.layout.specs.Octets.{Numbers64, null16, number16, number_at, octets_of, text_length}
use Rattle.layout.specs.Types.{TypeRow, classify, in_range, type_at, value_of}
use Rattle.layout.specs.Lists.{beside, has}
use Rattle.layout.specs.Book.{Data, Field, Groups, Shape, data_sinces, end, field_sinces, group_sinces, is_array, is_char}
use Rattle.layout.specs.Book.{is_optional, more, need, none}
use Rattle.layout.specs.BookRules.{fields_good}
use Rattle.layout.specs.Values.{Values, entry, group, nil}
use Rattle.layout.specs.Message.{Dimension, Entry, array_at, count_at, dimension_size, in_row, inside, read_block, read_data}
use Rattle.layout.specs.Message.{read_datas, read_dimension, read_entries, read_field, read_group, read_groups}
use Rattle.layout.specs.Writing.{block_octets, counts_of, data_octets, dimension_of, entries_in, field_octets, first}
use Rattle.layout.specs.Writing.{judge_block, judge_data, judge_datas, judge_entries, judge_field, judge_fields, judge_groups}
use Rattle.layout.specs.Writing.{numbers16, row_octets, second, span_octets, span_of, text_fits, third}
use Rattle.demands.proofs.Contents.{content_of, contents_of, tree_contents}
use Rattle.layout.proofs.ListLaws.{beside_listed}
use Rattle.layout.proofs.Lengths.{counts_long, field_long, fields_long, span_long}
use Rattle.layout.proofs.Present.{GoodGroup, GoodGroups, GoodShape, UpTo, groups_in_lem}
use Rattle.layout.proofs.Said.{ArraySaid, OctetsSaid, array_said, data_said, null, number_said, plain, text}
use Rattle.layout.proofs.Texts.{text_filled, text_zeros}
use Rattle.layout.proofs.Fields.{field_good_lem, need_within}
use Rattle.layout.proofs.Results.{and_left, and_right, done_inj, inv_bind, inv_both, inv_must}
use Rattle.layout.proofs.Stands.{AreAt, Stands, length_numbers, length_octets, number_stands, numbers_are, split_to}
use Rattle.layout.proofs.TypeLaws.{null_back, number_back}
use Rattle.layout.proofs.Accepted.{Few}
use Rattle.layout.proofs.Counts.{OwnCounts, counts_are, counts_read, counts_whole}
use Rattle.layout.specs.declared.Answer.{Answer}
use Rattle.layout.specs.declared.Answer.TheVariants.{Group, Null, Number, Octets}

cons_same : {A : Type 0} {x x' : A} {xs xs' : List A} → x ≡ x' → xs ≡ xs' → x ∷ xs ≡ x' ∷ xs'
cons_same p q = rw (p, q) refl

pub four_same : {a a' b b' c c' d d' : List (List ℕ)} → a ≡ a' → b ≡ b' → c ≡ c' → d ≡ d'
    → a ++ (b ++ (c ++ d)) ≡ a' ++ (b' ++ (c' ++ d'))
four_same p q r s = rw (p, q, r, s) refl

module _ (big : Bool) (m : List ℕ) (v : ℕ) where
  pub no_datas_lem : (at : ℕ) → read_datas big m v [] 0 at ≡ done ([], at)
  unfolding read_datas in_row ◌>>=◌
  no_datas_lem at = refl

  pub no_groups_lem : (counted : Bool) (levels at : ℕ) → read_groups counted v big m v none levels 0 at ≡ done (nil, at)
  unfolding read_groups in_row ◌>>=◌
  no_groups_lem counted levels at = refl

module _ (big : Bool) (l pool m : List ℕ) (v : ℕ) (small : Numbers64 l) where
  -- ---- a field

  class_null : (k : TypeRow) → classify k true k.null ≡ Null
  unfolding classify when◌then◌else◌ ◌and◌
  class_null k = rw (eq-eqb k.null k.null refl) refl

  class_number : (k : TypeRow) (o : Bool) (x : ℕ) → in_range k x ≡ true → eqb x k.null ≡ false
      → classify k o x ≡ Number x
  unfolding classify when◌then◌else◌ ◌and◌
  class_number k true x h n = rw (n, h) refl
  class_number k false x h n = rw h refl

  -- What a number field is read as where a was written for it.
  abbrev ReadAs : Field → ℕ → Answer → Type 0
  ReadAs f at a =
      let k = type_at f.type in
      beside f.names (classify k (is_optional f) (value_of k (number_at big k.width m at))) ≡ a

  null_back_at : (f : Field) (at to : ℕ) → is_array f ≡ false → is_optional f ≡ true
      → Stands m at (field_octets big pool f Null) to
      → ReadAs f at Null
  unfolding field_octets when◌then◌else◌ beside
  null_back_at f at to y o s =
      let k = type_at f.type in
      let e = ap (value_of k) (number_stands big k.width k.null (rw y at s)) ∙ null_back f.type in
      rw (o, e) (ap (beside f.names) (class_null k))

  number_back_at : (f : Field) (x at to : ℕ) → x < 2 ^ 64
      → (in_range (type_at f.type) x and not (eqb x (type_at f.type).null) and has f.names x) ≡ true
      → Stands m at (field_octets big pool f (Number x)) to → ReadAs f at (Number x)
  unfolding field_octets
  number_back_at f x at to b h s =
      let k = type_at f.type in
      let r = and_left _ _ h in
      let other = and_right _ _ h in
      let e = ap (value_of k) (number_stands big k.width x s) ∙ number_back f.type x b r in
      rw e (ap (beside f.names) (class_number k (is_optional f) x r (not-true _ (and_left _ _ other)))
      ∙ beside_listed f.names x (and_right _ _ other))

  number_field : (f : Field) (i at to : ℕ) (a : Answer) → is_array f ≡ false
      → judge_field l pool f i ≡ done a
      → Stands m at (field_octets big pool f a) to → ReadAs f at a × (content_of m a ≡ content_of pool a)
  unfolding when◌then◌else◌ content_of
  number_field f i at to a y e s =
      let q = number_said l pool f i a y e in
      go (eqb (first l i) 1) q.fits q.is
    where
      k : TypeRow
      k = type_at f.type

      go : (b : Bool) → (when b then is_optional f
          else in_range k (second l i) and not (eqb (second l i) k.null) and has f.names (second l i)) ≡ true
          → (when b then Null else Number (second l i)) ≡ a → ReadAs f at a × (content_of m a ≡ content_of pool a)
      go true h q = rw (← q) (null_back_at f at to y h (rw (← q) at s), refl)
      go false h q = rw (← q) (number_back_at f (second l i) at to (small (3 * i + 1)) h (rw (← q) at s), refl)

  -- Octets that stand elsewhere are the same octets.
  octets_same : (a : Answer) (at to i : ℕ) → OctetsSaid l pool i a → Stands m at (span_octets pool a) to
      → content_of m (Octets at (third l i)) ≡ content_of pool a
  unfolding content_of span_of
  octets_same a at to i q s =
      let start = second l i in
      let len = third l i in
      let s' : Stands m at (take len (drop start pool)) to = rw (← q.is) at s in
      let w : take len (drop at m) ≡ take len (drop start pool) =
      rw (span_long pool start len q.within) at s'.whole in
      rw (← q.is) (ap (λ (r : List ℕ). 2 ∷ r) w)

  -- Of an array that was written, the octets that were said stand first.
  said_stands : (f : Field) (i at to : ℕ) (a : Answer) → OctetsSaid l pool i a
      → Stands m at (field_octets big pool f a) to
      → Stands m at (span_octets pool a) (at + third l i)
  unfolding field_octets span_of
  said_stands f i at to a q s =
      let start = second l i in
      let len = third l i in
      let xs = take len (drop start pool) in
      rw (← q.is) (split_to xs (replicate (f.length - len) 0) (at + len)
      (omega (arith, span_long pool start len q.within)) (rw (← q.is) at s)).0

  null_array : (f : Field) (at to : ℕ) → is_array f ≡ true → is_char f ≡ true → is_optional f ≡ true
      → Stands m at (field_octets big pool f Null) to → array_at m at f ≡ Null
  unfolding field_octets array_at when◌then◌else◌ ◌and◌
  null_array f at to y c o s =
      let n = f.length in
      let w : take n (drop at m) ≡ replicate n 0 = rw (length-replicate {A = ℕ} n 0) at (rw y at s).whole in
      rw (c, o, w, text_zeros n) refl

  plain_array : (f : Field) (at : ℕ) → is_char f ≡ false → array_at m at f ≡ Octets at f.length
  unfolding array_at when◌then◌else◌
  plain_array f at c = rw c refl

  -- A text is read up to where it ended.
  text_array : (f : Field) (i at to : ℕ) → is_char f ≡ true → text_fits l pool f i ≡ true
      → second l i + third l i ≤ length pool
      → Stands m at (field_octets big pool f (Octets (second l i) (third l i))) to
      → array_at m at f ≡ Octets at (third l i)
  unfolding field_octets span_of array_at when◌then◌else◌
  text_array f i at to c h within s =
      let n = f.length in
      let len = third l i in
      let xs = take len (drop (second l i) pool) in
      let zs = replicate {A = ℕ} (n - len) 0 in
      let long : length (xs ++ zs) ≡ n = length-append xs zs
      ∙ omega (
        arith,
        span_long pool (second l i) len within,
        length-replicate {A = ℕ} (n - len) 0,
        leb-true len n (and_left _ _ h),
      ) in
      let w : take n (drop at m) ≡ xs ++ zs = rw long at s.whole in
      let rest = and_right _ _ h in
      let ends : text_length (take n (drop at m)) ≡ len =
      ap text_length w ∙ text_filled xs (n - len) ∙ eqb-true (text_length xs) len (and_left _ _ rest) in
      rw (c, ends, not-true (is_optional f and eqb len 0) (and_right _ _ rest)) refl

  array_field : (f : Field) (i at to : ℕ) (a : Answer) → is_array f ≡ true → ArraySaid l pool f i a
      → Stands m at (field_octets big pool f a) to → content_of m (array_at m at f) ≡ content_of pool a
  unfolding content_of
  array_field f i at to a y (null c n o e) s = rw (← e, null_array f at to y c o (rw (← e) at s)) refl
  array_field f i at to a y (text c q h) s =
      rw (text_array f i at to c h q.within (rw (← q.is) at s))
      (octets_same a at (at + third l i) i q (said_stands f i at to a q s))
  array_field f i at to a y (plain c q h) s =
      rw (plain_array f at c, ← h) (octets_same a at (at + third l i) i q (said_stands f i at to a q s))

  field_back : (f : Field) (i base to : ℕ) (a : Answer) → f.since ≤ v
      → judge_field l pool f i ≡ done a
      → Stands m (base + f.offset) (field_octets big pool f a) to
      → content_of m (read_field big m v base f) ≡ content_of pool a
  unfolding read_field when◌then◌else◌
  field_back f i base to a h e s = rw (le-leb f.since v h) (go (is_array f) refl)
    where
      k : TypeRow
      k = type_at f.type

      go : (y : Bool) → is_array f ≡ y
          → content_of m (when y then array_at m (base + f.offset) f else beside f.names (classify k
          (is_optional f) (value_of k (number_at big k.width m (base + f.offset))))) ≡ content_of pool a
      go true y = array_field f i (base + f.offset) to a y (array_said l pool f i a y e) s
      go false y =
          let b = number_field f i (base + f.offset) to a y e s in
          ap (content_of m) b.0 ∙ b.1

  -- ---- the fields of a block that starts at base, from its octet `from` on

  fields_back : (fs : List Field) (len from i base to : ℕ) (r : List Answer × ℕ) → fields_good len from fs ≡ true
      → UpTo v (field_sinces fs) → judge_fields l pool fs i ≡ done r
      → Stands m (base + from) (block_octets big pool len from fs r.0) to
      → contents_of m (map (read_field big m v base) fs) ≡ contents_of pool r.0
  unfolding Each judge_fields block_octets
  fields_back [] len from i base to r g u e s = ap (λ (x : List Answer × ℕ). contents_of pool x.0) (done_inj e)
  fields_back (f ∷ fs) len from i base to r g u e s =
      let p = inv_both _ _ _ _ e in
      let a : Answer = p.value in
      let rest : List Answer × ℕ = p.other in
      let q : (a ∷ rest.0, rest.1) ≡ r = p.is in
      let k = field_good_lem len from f fs g in
      let xs = field_octets big pool f a in
      let ys = block_octets big pool len (end f) fs rest.0 in
      let pad = length-replicate {A = ℕ} (f.offset - from) 0 in
      let o₁ = split_to (replicate (f.offset - from) 0) (xs ++ ys) (base + f.offset) (omega (arith, k.placed, pad))
      (rw (← q) at s) in
      let long = field_long big l pool f i a k.length p.first in
      let o₂ = split_to xs ys (base + end f) (omega (arith, long)) o₁.1 in
      let b = field_back f i base (base + end f) a u.0 p.first o₂.0 in
      cons_same b (fields_back fs len (end f) (suc i) base to rest k.rest u.1 p.second o₂.1)
      ∙ ap (λ (x : List Answer × ℕ). contents_of pool x.0) q

  -- ---- data

  data_at_lem : (at len : ℕ) → number16 big m at ≡ len → at + 2 ≤ length m → len < 65535 → at + 2 + len ≤ length m
      → read_data big m at ≡ done (Octets (at + 2) len, at + 2 + len)
  unfolding read_data must ◌>>=◌
  data_at_lem at len n a b c = rw (n, le-leb (at + 2) (length m) a, lt-ltb len 65535 b, le-leb (at + 2 + len) (length m) c)
      refl

  data_back : (i at to : ℕ) (a : Answer) (ds : List Answer) → judge_data l pool i ≡ done a
      → Stands m at (data_octets big pool (a ∷ ds)) to
      → (b : Answer × ℕ) × (read_data big m at ≡ done b) × (content_of m b.0 ≡ content_of pool a)
      × (Stands m b.1 (data_octets big pool ds) to)
  unfolding data_octets span_of
  data_back i at to a ds e s =
      let d = data_said l pool i a e in
      let q = d.0 in
      let start = second l i in
      let len = third l i in
      let long = span_long pool start len q.within in
      let xs = take len (drop start pool) in
      let o₁ = split_to (octets_of big 2 len) (xs ++ data_octets big pool ds) (at + 2)
      (omega (arith, length_octets big 2 len)) (rw (← q.is) at s) in
      let o₂ = split_to xs (data_octets big pool ds) (at + 2 + len) (omega (arith, long)) o₁.1 in
      let n = number_stands big 2 len o₁.0 ∙ mod-eq_of_lt (omega (arith, d.1)) in (
        (Octets (at + 2) len, at + 2 + len),
        data_at_lem at len n o₁.0.fits d.1 o₂.0.fits,
        octets_same a (at + 2) (at + 2 + len) i q (rw (← q.is) o₂.0),
        o₂.1,
      )

  datas_next : (d : Data) (ds : List Data) (at to : ℕ) (b : Answer × ℕ) (w : List Answer) → d.since ≤ v
      → read_data big m at ≡ done b → read_datas big m v ds 0 b.1 ≡ done (w, to)
      → read_datas big m v (d ∷ ds) 0 at ≡ done (b.0 ∷ w, to)
  unfolding read_datas ◌>>=◌ when◌then◌else◌
  datas_next d ds at to b w h e q = rw (le-leb d.since v h, e, q) refl

  datas_back : (ds : List Data) (i at to : ℕ) (r : List Answer × ℕ) → UpTo v (data_sinces ds)
      → judge_datas l pool ds i ≡ done r → Stands m at (data_octets big pool r.0) to
      → (b : List Answer) × (read_datas big m v ds 0 at ≡ done (b, to)) × (contents_of m b ≡ contents_of pool r.0)
  unfolding judge_datas Each data_octets
  datas_back [] i at to r u e s =
      let q : ([], i) ≡ r = done_inj e in
      let s' : Stands m at [] to = rw (← q) at s in
      let w : at ≡ to = omega (arith, s'.ends) in
      ([], rw (← w) (no_datas_lem big m v at), rw (← q) refl)
  datas_back (d ∷ ds) i at to r u e s =
      let p = inv_both _ _ _ _ e in
      let q : (p.value ∷ p.other.0, p.other.1) ≡ r = p.is in
      let b = data_back i at to p.value p.other.0 p.first (rw (← q) at s) in
      let w = datas_back ds (suc i) b.0.1 to p.other u.1 p.second b.3 in (
        b.0.0 ∷ w.0,
        datas_next d ds at to b.0 w.0 u.0 b.1 w.1,
        cons_same b.2 w.2
            ∙ ap (λ (x : List Answer × ℕ). contents_of pool x.0) q,
      )

-- ---- blocks, entries, groups

module _ (counted big : Bool) (l pool m : List ℕ) (v : ℕ) (small : Numbers64 l) where
  -- A row that was judged to be `said` is read again, up to `to`.
  pub record RowBack (said : Values) (to : ℕ) (read : Result (Values × ℕ)) : Type 0 where
    pub values : Values
    pub reads : read ≡ done (values, to)
    pub same : tree_contents m values ≡ tree_contents pool said

  pub record EntryBack (said : Entry) (to : ℕ) (read : Result Entry) : Type 0 where
    pub fields : List Answer
    pub groups : Values
    pub datas : List Answer
    pub reads : read ≡ done (fields, groups, datas, to)
    pub same_fields : contents_of m fields ≡ contents_of pool said.0
    pub same_groups : tree_contents m groups ≡ tree_contents pool said.1
    pub same_datas : contents_of m datas ≡ contents_of pool said.2

  -- A row of nothing is read where it stands.
  nothing_back : (s : Shape) (gs : Groups) (f : ℕ → Result (Values × ℕ)) (at to : ℕ) → f at ≡ done (nil, at)
      → Stands m at (row_octets counted big pool s gs nil) to → RowBack nil to (f at)
  unfolding row_octets
  nothing_back s gs f at to e o =
      let q : at ≡ to = omega (arith, o.ends) in
      record { values = nil; reads = e ∙ ap (λ (x : ℕ). done (nil, x)) q; same = unfold tree_contents in refl }

  block_reads : (s : Shape) (f : ℕ → Result (Values × ℕ)) (n at x to : ℕ) (g : Values) (ds : List Answer)
      → at + n ≤ length m
      → f (at + n) ≡ done (g, x) → read_datas big m v s.datas 0 x ≡ done (ds, to)
      → read_block big m v s f 0 n at ≡ done (map (read_field big m v at) s.fields, g, ds, to)
  unfolding read_block must ◌>>=◌
  block_reads s f n at x to g ds h e q = rw (le-leb (at + n) (length m) h, e, q) refl

  module _ (s : Shape) (gs : Groups) (good : GoodShape v s) (f' : ℕ → Result (Values × ℕ)) (f : ℕ → Result (Values × ℕ))
      (ih : (i at to : ℕ) (r : Values × ℕ) → f' i ≡ done r → Stands m at (row_octets counted big pool s gs r.0) to
      → RowBack r.0 to (f at)) where
    abbrev pub entry_octets : Entry → List ℕ
    entry_octets b = block_octets big pool s.length 0 s.fields b.0
        ++ (row_octets counted big pool s gs b.1 ++ data_octets big pool b.2)

    abbrev read_one : ℕ → Result Entry
    read_one at = read_block big m v s f 0 s.length at

    block_forth : (i j k e at to : ℕ) (fs : List Answer) (g : Values) (ds : List Answer)
        → judge_fields l pool s.fields i ≡ done (fs, j) → f' j ≡ done (g, k)
        → judge_datas l pool s.datas k ≡ done (ds, e)
        → Stands m at (entry_octets (fs, g, ds, e)) to → EntryBack (fs, g, ds, e) to (read_one at)
    block_forth i j k e at to fs g ds a b c st =
        let xs = block_octets big pool s.length 0 s.fields fs in
        let ys = row_octets counted big pool s gs g in
        let mid = at + s.length in
        let start : at + 0 ≡ at = omega arith in
        let long = fields_long big l pool s.fields s.length 0 i (fs, j) good.fields (omega arith) a in
        let o₁ = split_to xs (ys ++ data_octets big pool ds) mid (omega (arith, long)) st in
        let o₂ = split_to ys (data_octets big pool ds) (mid + length ys) refl o₁.1 in
        let w₂ = ih j mid (mid + length ys) (g, k) b o₂.0 in
        let w₃ = datas_back big l pool m v small s.datas k (mid + length ys) to (ds, e) good.datas_in c o₂.1 in
        record {
          fields = map (read_field big m v at) s.fields;
          groups = w₂.values;
          datas = w₃.0;
          reads = block_reads s f s.length at (mid + length ys) to w₂.values w₃.0 o₁.0.fits w₂.reads
              w₃.1;
          same_fields = fields_back big l pool m v small s.fields s.length 0 i at mid (fs, j) good.fields
              good.fields_in a (rw start o₁.0);
          same_groups = w₂.same;
          same_datas = w₃.2;
        }

    pub block_back : (i at to : ℕ) (b : Entry) → judge_block l pool s f' i ≡ done b
        → Stands m at (entry_octets b) to
        → EntryBack b to (read_one at)
    unfolding judge_block
    block_back i at to b e st =
        let p = inv_bind _ _ _ e in
        let n = inv_both _ _ _ _ p.next in
        subst (λ (x : Entry). Stands m at (entry_octets x) to → EntryBack x to (read_one at)) n.is
        (block_forth i p.value.1 n.value.1 n.other.1 at to p.value.0 n.value.0 n.other.0
        p.first n.first n.second)
        st

    entries_next : (k at x to : ℕ) (fs : List Answer) (g : Values) (ds : List Answer) (r : Values)
        → read_one at ≡ done (fs, g, ds, x)
        → read_entries k read_one x ≡ done (r, to) → read_entries (suc k) read_one at ≡ done (entry fs g ds r, to)
    unfolding read_entries ◌>>=◌
    entries_next k at x to fs g ds r e q = rw (e, q) refl

    entries_forth : (k i at to : ℕ) (b : Entry) (r : Values × ℕ) → judge_block l pool s f' i ≡ done b
        → ((x : ℕ) → Stands m x (row_octets counted big pool s gs r.0) to
        → RowBack r.0 to (read_entries k read_one x))
        → Stands m at (row_octets counted big pool s gs (entry b.0 b.1 b.2 r.0)) to
        → RowBack (entry b.0 b.1 b.2 r.0) to (read_entries (suc k) read_one at)
    unfolding row_octets tree_contents
    entries_forth k i at to b r e rest st =
        let mid = at + length (entry_octets b) in
        let o = split_to (entry_octets b) (row_octets counted big pool s gs r.0) mid refl st in
        let w = block_back i at mid b e o.0 in
        let z = rest mid o.1 in
        record {
          values = entry w.fields w.groups w.datas z.values;
          reads = entries_next k at mid to w.fields w.groups w.datas z.values w.reads z.reads;
          same = four_same w.same_fields w.same_groups w.same_datas z.same;
        }

    entries_back : (k i at to : ℕ) (r : Values × ℕ)
        → judge_entries l pool k (judge_block l pool s f') i ≡ done r
        → Stands m at (row_octets counted big pool s gs r.0) to → RowBack r.0 to (read_entries k read_one at)
    unfolding judge_entries
    entries_back zero i at to r e st =
        subst (λ (x : Values × ℕ). Stands m at (row_octets counted big pool s gs x.0) to
        → RowBack x.0 to (read_entries 0 read_one at)) (done_inj e)
        (nothing_back s gs (read_entries 0 read_one) at to (unfold read_entries in refl)) st
    entries_back (suc k) i at to r e st =
        let p = inv_both _ _ _ _ e in
        subst (λ (x : Values × ℕ). Stands m at (row_octets counted big pool s gs x.0) to
        → RowBack x.0 to (read_entries (suc k) read_one at)) p.is
        (entries_forth k i at to p.value p.other p.first
        (λ x o. entries_back k p.value.3 x to p.other p.second o)) st

  -- The dimension of k entries, where it was written.
  abbrev dimension_at : Shape → ℕ → ℕ → Dimension
  dimension_at s k at =
      record {
        length = s.length;
        entries = k;
        groups = count_at counted big m (at + 4);
        datas = count_at counted big m (at + 4 + 2);
      }

  dimension_reads : (s : Shape) (gs : Groups) (k at : ℕ) → s.length < null16 → k < null16 → Few s gs
      → AreAt big m at (s.length ∷ k ∷ []) → AreAt big m (at + 4) (counts_of counted gs s.datas)
      → at + dimension_size counted ≤ length m
      → read_dimension counted big m at ≡ done (dimension_at s k at)
  unfolding read_dimension must ◌>>=◌ ◌and◌ AreAt
  dimension_reads s gs k at short few less a c h =
      let w = counts_are counted big m (at + 4) gs s.datas (counts_whole counted s gs less) c in
      rw (
        a.0,
        a.1.0,
        le-leb (at + dimension_size counted) (length m) h,
        lt-ltb s.length null16 short,
        lt-ltb k null16 few,
        lt-ltb _ null16 w.0,
        lt-ltb _ null16 w.1,
      ) refl

  -- What a book of version v reads of groups.
  abbrev read_known : Groups → ℕ → ℕ → Result (Values × ℕ)
  read_known gs levels at = read_groups counted v big m v gs levels 0 at

  groups_next : (i since : ℕ) (s : Shape) (inner rest : Groups) (levels at x to k : ℕ) (es r : Values) → since ≤ v
      → read_dimension counted big m at ≡ done (dimension_at s k at) → need v s ≤ s.length
      → OwnCounts counted v inner s.datas big m (at + 4)
      → read_entries k (read_block big m v s (read_known inner (inside levels)) 0 s.length) (at + dimension_size counted)
      ≡ done (es, x)
      → read_known rest levels x ≡ done (r, to)
      → read_known (more i since s inner rest) levels at ≡ done (group (Group k) es r, to)
  unfolding read_groups read_group must ◌>>=◌ ◌and◌ when◌then◌else◌
  groups_next i since s inner rest levels at x to k es r h a n o b c =
      rw (
        le-leb since v h,
        a,
        le-leb (need v s) s.length n,
        o.groups_good,
        o.datas_good,
        o.no_groups,
        o.no_datas,
        b,
        c,
      ) refl

  groups_forth : (i since : ℕ) (s : Shape) (inner rest : Groups) (s₀ : Shape) (levels k at to : ℕ) (es r : Values)
      → GoodGroup v levels since s inner → UpTo v (group_sinces inner) → k < null16
      → ((x y : ℕ) → Stands m x (row_octets counted big pool s inner es) y
      → RowBack es y (read_entries k (read_block big m v s (read_known inner (inside levels)) 0 s.length) x))
      → ((x y : ℕ) → Stands m x (row_octets counted big pool s₀ rest r) y → RowBack r y (read_known rest levels x))
      → Stands m at (row_octets counted big pool s₀ (more i since s inner rest) (group (Group k) es r)) to
      → RowBack (group (Group k) es r) to (read_known (more i since s inner rest) levels at)
  unfolding row_octets entries_in tree_contents content_of Each AreAt
  groups_forth i since s inner rest s₀ levels k at to es r good groups_in few entries after st =
      let d = dimension_of counted s inner k in
      let xs = row_octets counted big pool s inner es in
      let ys = row_octets counted big pool s₀ rest r in
      let mid = at + dimension_size counted in
      let short = good.shape.short in
      let o₁ = split_to (numbers16 big d) (xs ++ ys) mid
      (omega (arith, length_numbers big d, counts_long counted inner s.datas)) st in
      let o₂ = split_to xs ys (mid + length xs) refl o₁.1 in
      let are = numbers_are big d (short, (few, counts_whole counted s inner good.few)) o₁.0 in
      let four : at + 2 + 2 ≡ at + 4 = omega arith in
      let counts = subst (λ (x : ℕ). AreAt big m x (counts_of counted inner s.datas)) four are.1.1 in
      let reads = dimension_reads s inner k at short few good.few (are.0, (are.1.0, tt)) counts o₁.0.fits in
      let w = entries mid (mid + length xs) o₂.0 in
      let z = after (mid + length xs) to o₂.1 in
      record {
        values = group (Group k) w.values z.values;
        reads = groups_next i since s inner rest levels at (mid + length xs) to k w.values z.values good.is_in
            reads (need_within v s.length 0 0 s.fields good.shape.fields (omega arith))
            (counts_read counted v inner s.datas big m (at + 4) groups_in good.shape.datas_in counts)
            w.reads z.reads;
        same = rw (w.same, z.same) refl;
      }

  pub groups_back : (gs : Groups) (s₀ : Shape) (levels i at to : ℕ) (r : Values × ℕ) → GoodGroups v levels gs
      → judge_groups l pool gs i ≡ done r
      → Stands m at (row_octets counted big pool s₀ gs r.0) to → RowBack r.0 to (read_known gs levels at)
  unfolding judge_groups GoodGroups
  groups_back none s₀ levels i at to r good e st =
      subst (λ (x : Values × ℕ). Stands m at (row_octets counted big pool s₀ none x.0) to
      → RowBack x.0 to (read_known none levels at)) (done_inj e)
      (nothing_back s₀ none (read_known none levels) at to (no_groups_lem big m v counted levels at)) st
  groups_back (more id since s inner rest) s₀ levels i at to r good e st =
      let n = inv_bind _ _ _ (inv_bind _ _ _ e).next in
      let p = inv_both _ _ _ _ n.next in
      let k = second l i in
      let gs = more id since s inner rest in
      subst (λ (x : Values × ℕ). Stands m at (row_octets counted big pool s₀ gs x.0) to
      → RowBack x.0 to (read_known gs levels at)) p.is
      (groups_forth id since s inner rest s₀ levels k at to p.value.0 p.other.0 good.0
      (groups_in_lem v (inside levels) inner good.1) (ltb-true k null16 (inv_must _ _ _ _ n.first))
      (λ x y o. entries_back s inner good.0.shape (judge_groups l pool inner)
      (read_known inner (inside levels))
      (λ i' at' to' r' e' o'. groups_back inner s (inside levels) i' at' to' r' good.1 e' o') k (suc i) x y
      p.value p.first o)
      (λ x y o. groups_back rest s₀ levels p.value.1 x y p.other good.2 p.second o)) st
