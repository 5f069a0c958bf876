-- Where the numbers of a tree stand, the tree is read back, and everything that was worked out of it is right.
use mathlib.Core.Path.{◌≡◌, refl, subst, sym, ap, ◌∙◌}
use mathlib.Core.Bool.{Bool, true}
use mathlib.Core.List.{List, [], ◌∷◌, ◌++◌}
use Prim.Native.Nat.{ℕ, zero, suc, ◌+◌, ◌-◌, ◌*◌, ◌≤◌, ◌<◌}
use native.Mathlib.Nat.{add-suc, add-zero, le_refl}
use native.Mathlib.Omega.{arith}
use lib.ListN.{get_or, length, length-append, length-map, length-set}
use lib.Seq.{get_or-drop, get_or-take}
use borrow.Author.Tests.{le-leb, leb-true}
use Rattle.layout.specs.Result.{Each, when◌then◌else◌}
use Rattle.layout.specs.Lists.{NameList}
use Rattle.layout.specs.Book.{Book, Data, Field, Groups, Shape, data_sinces, end, field_sinces, group_sinces, more, need}
use Rattle.layout.specs.Book.{Template, need_after, none, present}
use Rattle.layout.specs.BookRules.{fields_good, names_good, parse_datas, parse_fields, rising, shape_good, word}
use Rattle.layout.proofs.Fields.{field_good_lem}
use Rattle.layout.proofs.Present.{present_up}
use Rattle.layout.proofs.Results.{and_left, and_right}
use Rattle.layout.proofs.Stands.{Stands, split_to}
use Rattle.number_types.specs.Value.{order_of}
use Rattle.prepared.specs.Numbers.{block_of, block_size, contents_of, count, datas_of, fields_of, groups_of, groups_size}
use Rattle.prepared.specs.Numbers.{bodies_of, lists_from, lists_numbers, lists_size, place_of, prepared_of, row_of}
use Rattle.prepared.specs.Numbers.{own_counts, sizes_of, slots_of, table_of}
use Rattle.prepared.specs.Names.{HasNames, lists_at}
use Rattle.prepared.specs.Positions.{Derived, IsBlock, IsRow, Sized, field_at, groups_at, is_big, shape_at, version_at}
use Rattle.prepared.specs.Fits.{Fits, FitsShape, IsNamed}

-- ---- numbers that stand

pub number_at : {m : List ℕ} {at to : ℕ} {xs : List ℕ} → Stands m at xs to → (i : ℕ) → i < length xs
    → word m (at + i) ≡ get_or xs i 0
number_at {m} {at} {to} {xs} s i h =
    let e = ap (λ (l : List ℕ). get_or l i 0) s.whole in
    rw (get_or-take, get_or-drop) at e

pub first_at : {m : List ℕ} {at to x : ℕ} {xs : List ℕ} → Stands m at (x ∷ xs) to → word m at ≡ x
first_at s = rw add-zero at (number_at s 0 (omega arith))

-- The first k of them, and the rest.
past : {m : List ℕ} {at to : ℕ} (ys xs : List ℕ) (k : ℕ) → k ≡ length ys → Stands m at (ys ++ xs) to
    → Stands m (at + k) xs to
past {m} {at} ys xs k e s = (split_to ys xs (at + k) (omega arith) s).1

-- Numbers that fall at no step never fall.
module _ (f : ℕ → ℕ) (n : ℕ) (step : (i : ℕ) → suc i < n → f i ≤ f (suc i)) where
  rise_by : (i k : ℕ) → i + k < n → f i ≤ f (i + k)
  rise_by i zero h = rw add-zero (le_refl _)
  rise_by i (suc k) h = rw add-suc (omega (arith, rise_by i k (omega arith), step (i + k) (omega arith)))

  pub rises : (i j : ℕ) → i ≤ j → j < n → f i ≤ f j
  rises i j h k = let q : i + (j - i) ≡ j = omega arith in rw q at (rise_by i (j - i) (omega arith))

-- ---- lengths

length_fields : (fs : List Field) → length (fields_of fs) ≡ 7 * length fs
unfolding fields_of
length_fields [] = refl
length_fields (f ∷ fs) = omega (arith, length_fields fs)

length_datas : (ds : List Data) → length (datas_of ds) ≡ 2 * length ds
unfolding datas_of
length_datas [] = refl
length_datas (d ∷ ds) = omega (arith, length_datas ds)

module _ (ls : List NameList) (from : ℕ) (big : Bool) where
  pub length_table : (fs : List Field) → length (table_of ls from big fs) ≡ 6 * length fs
  unfolding table_of
  length_table [] = refl
  length_table (f ∷ fs) = omega (arith, length_table fs)

  module _ (version : ℕ) where
    length_block : (i since : ℕ) (s : Shape) (g next at : ℕ)
        → length (block_of ls from big version i since s g next at) ≡ block_size s
    length_block i since s g next at =
        simp (length-append, length_fields, length_datas, length_table) (omega arith)

    pub length_groups : (gs : Groups) (at : ℕ) → length (groups_of ls from big version gs at) ≡ groups_size gs
    unfolding groups_of groups_size
    length_groups none at = refl
    length_groups (more i since s inner rest) at =
        let x = at + block_size s in
        let y = x + groups_size inner in
        let b = block_of ls from big version i since s (count inner) y at in
        rw (length-append b, length-append (groups_of ls from big version inner x))
        (omega (arith, length_block i since s (count inner) y at, length_groups inner x, length_groups rest y))

    length_bodies : (ts : List Template) (at : ℕ) → length (bodies_of ls from big version ts at) ≡ sizes_of ts
    unfolding bodies_of sizes_of
    length_bodies [] at = refl
    length_bodies (t ∷ ts) at = simp (length-append, length_groups (row_of t) at, length_bodies ts)

pub length_lists : (ls : List NameList) → length (lists_numbers ls) ≡ lists_size ls
unfolding lists_numbers lists_size
length_lists [] = refl
length_lists (l ∷ ls) = simp length-append (omega (arith, length_lists ls))

pub length_slots : (ts : List Template) (at : ℕ) (ss : List ℕ) → length (slots_of ts at ss) ≡ length ss
unfolding slots_of
length_slots [] at ss = refl
length_slots (t ∷ ts) at ss = length_slots ts _ _ ∙ simp length-set

pub length_contents : (ts : List Template) (at : ℕ) → length (contents_of ts at) ≡ 2 * length ts
unfolding contents_of
length_contents [] at = refl
length_contents (t ∷ ts) at = omega (arith, length_contents ts (at + groups_size (row_of t)))

pub length_numbers : (b : Book)
    → length (prepared_of b) ≡ lists_from (length b.templates) + lists_size b.lists + sizes_of b.templates
unfolding prepared_of
length_numbers b = simp (length-append, length_slots, length_contents, length_lists, length_bodies) (omega arith)

-- ---- fields and data

-- Where the first list of p stands at `from`, the place of a field's list leads to the field's names, if the field
-- keeps rule 5.
abbrev pub LeadsToNames : List ℕ → ℕ → Type 0
LeadsToNames p from = (f : Field) → IsNamed (lists_at p) f → names_good f ≡ true
    → HasNames p (place_of f.list (lists_at p) from) f.names

names_good_lem : (l e : ℕ) (f : Field) (fs : List Field) → fields_good l e (f ∷ fs) ≡ true → names_good f ≡ true
unfolding fields_good
names_good_lem l e f fs g =
    let g₃ = and_right _ _ (and_right _ _ (and_right _ _ (and_left _ _ g))) in
    and_right _ _ (and_right _ _ g₃)

module _ (p : List ℕ) where
  field_stands : (f : Field) (xs : List ℕ) (at to : ℕ) → IsNamed (lists_at p) f
      → Stands p at (f.id ∷ f.type ∷ f.length ∷ f.offset ∷ f.presence ∷ f.since ∷ f.list ∷ xs) to
      → (field_at p at ≡ f) × Stands p (at + 7) xs to
  field_stands f xs at to named s = (
    rw (
      first_at s,
      number_at s 1 (omega arith),
      number_at s 2 (omega arith),
      number_at s 3 (omega arith),
      number_at s 4 (omega arith),
      number_at s 5 (omega arith),
      number_at s 6 (omega arith),
      ← named,
    ) refl,
    past (f.id ∷ f.type ∷ f.length ∷ f.offset ∷ f.presence ∷ f.since ∷ f.list ∷ []) xs 7 refl s,
  )

  fields_stand : (fs : List Field) (at to : ℕ) → Each (IsNamed (lists_at p)) fs → Stands p at (fields_of fs) to
      → parse_fields (lists_at p) p (length fs) at ≡ fs
  unfolding fields_of parse_fields Each
  fields_stand [] at to named s = refl
  fields_stand (f ∷ fs) at to named s =
      let o = field_stands f (fields_of fs) at to named.0 s in
      rw (o.0, fields_stand fs (at + 7) to named.1 o.1) refl

  datas_stand : (ds : List Data) (at to : ℕ) → Stands p at (datas_of ds) to → parse_datas p (length ds) at ≡ ds
  unfolding datas_of parse_datas
  datas_stand [] at to s = refl
  datas_stand (d ∷ ds) at to s =
      let e1 = number_at s 1 (omega arith) in
      rw (first_at s, e1, datas_stand ds (at + 2) to (past (d.id ∷ d.since ∷ []) (datas_of ds) 2 refl s)) refl

  -- The table stands beside the fields.
  module _ (from : ℕ) (leads : LeadsToNames p from) where
    abbrev table : List Field → List ℕ
    table fs = table_of (lists_at p) from (is_big p) fs

    first_derived : (f : Field) (at x y : ℕ) (xs : List ℕ) → IsNamed (lists_at p) f → names_good f ≡ true
        → field_at p at ≡ f → Stands p x (table (f ∷ []) ++ xs) y → Derived p (x + 6 * 0) (field_at p (at + 7 * 0))
    unfolding table_of
    first_derived f at x y xs named good is s =
        let q : x ≡ x + 6 * 0 = omega arith in
        let r : at ≡ at + 7 * 0 = omega arith in
        subst (λ (z : ℕ). Derived p z (field_at p (at + 7 * 0))) q (subst (λ (z : ℕ). Derived p x (field_at p z)) r
        (subst (λ (g : Field). Derived p x g) (sym is)
        (record {
          code = first_at s;
          least = number_at s 1 (omega arith);
          spread = number_at s 2 (omega arith);
          null = number_at s 3 (omega arith);
          width = number_at s 4 (omega arith);
          names = rw (number_at s 5 (omega arith)) (leads f named good);
        })))

    table_stands : (fs : List Field) (l e at to x y : ℕ) → Each (IsNamed (lists_at p)) fs → fields_good l e fs ≡ true
        → Stands p at (fields_of fs) to → Stands p x (table fs) y → (i : ℕ) → i < length fs
        → Derived p (x + 6 * i) (field_at p (at + 7 * i))
    unfolding fields_of table_of Each
    table_stands [] l e at to x y named good s t i h = absurd (omega arith)
    table_stands (f ∷ fs) l e at to x y named good s t zero h =
        first_derived f at x y (table fs) named.0 (names_good_lem l e f fs good)
        (field_stands f (fields_of fs) at to named.0 s).0 t
    table_stands (f ∷ fs) l e at to x y named good s t (suc i) h =
        let q : at + 7 + 7 * i ≡ at + 7 * suc i = omega arith in
        let r : x + 6 + 6 * i ≡ x + 6 * suc i = omega arith in
        subst (λ (z : ℕ). Derived p z (field_at p (at + 7 * suc i))) r
        (subst (λ (z : ℕ). Derived p (x + 6 + 6 * i) (field_at p z)) q
        (table_stands fs l (end f) (at + 7) to (x + 6) y named.1 (field_good_lem l e f fs good).rest
        (field_stands f (fields_of fs) at to named.0 s).1
        (past (table (f ∷ [])) (table fs) 6 refl t) i (omega arith)))

-- ---- sinces

pub rising_up : (v high low : ℕ) (ss : List ℕ) → high ≤ v → rising high low ss ≡ true → Each (λ since. since ≤ v) ss
unfolding rising Each
rising_up v high low [] h g = tt
rising_up v high low (s ∷ ss) h g =
    let r = and_right _ _ g in
    (omega (arith, leb-true s high (and_left _ _ r)), rising_up v high s ss h (and_right _ _ r))

-- Of the fields of which rule 6 holds none falls.
sinces_next : (ls : List NameList) (b : List ℕ) (high n low w : ℕ)
    → rising high low (field_sinces (parse_fields ls b n w)) ≡ true → (i : ℕ) → suc i < n
    → word b (w + 7 * i + 5) ≤ word b (w + 7 * suc i + 5)
unfolding rising parse_fields
sinces_next ls b high zero low w g i h = absurd (omega arith)
sinces_next ls b high (suc zero) low w g zero h = absurd (omega arith)
sinces_next ls b high (suc (suc n)) low w g zero h =
    let q : w + 7 * 0 ≡ w = omega arith in
    rw q (leb-true _ _ (and_left _ _ (and_right _ _ (and_right _ _ g))))
sinces_next ls b high (suc n) low w g (suc i) h =
    let q : (k : ℕ) → w + 7 * suc k ≡ w + 7 + 7 * k = λ k. omega arith in
    rw (q i, q (suc i))
    (sinces_next ls b high n (word b (w + 5)) (w + 7) (and_right _ _ (and_right _ _ g)) i (omega arith))

-- At the book's version and later the need is one.
need_up : (version v e : ℕ) (fs : List Field) → Each (λ since. since ≤ version) (field_sinces fs) → version ≤ v
    → need_after version e fs ≡ need_after v e fs
unfolding need_after Each when◌then◌else◌
need_up version v e [] u h = refl
need_up version v e (f ∷ fs) u h =
    rw (le-leb f.since version u.0, le-leb f.since v (omega (arith, u.0)))
    (need_up version v (end f) fs u.1 h)

-- ---- a block, and rows

-- The groups stand at `at` as a row, and are read back.
pub record Read (p : List ℕ) (depth at : ℕ) (gs : Groups) : Type 0 where
  pub row : IsRow p depth (count gs) at
  pub tree : groups_at p depth (count gs) at ≡ gs

module _ (p : List ℕ) (short : length p ≤ 65535) (sized : Sized p) (from : ℕ) (leads : LeadsToNames p from) where
  module _ (i since : ℕ) (s : Shape) (inner : Groups) (next at : ℕ) (old : since ≤ version_at p)
      (fits : FitsShape (lists_at p) (version_at p) s inner)
      (stands : Stands p at (block_of (lists_at p) from (is_big p) (version_at p) i since s (count inner) next at)
      (at + block_size s))
    where
      abbrev fields : ℕ
      fields = length s.fields

      abbrev datas : ℕ
      datas = length s.datas

      abbrev head : List ℕ
      head =
          i ∷ since ∷ s.length ∷ fields ∷ count inner ∷ datas ∷ need (version_at p) s
          ∷ own_counts (order_of (is_big p)) (count inner) datas ∷ next ∷ (at + block_size s) ∷ (at + 12 + 7 * fields)
          ∷ (at + 12 + 7 * fields + 2 * datas) ∷ []

      abbrev tables : List ℕ
      tables = datas_of s.datas ++ table p from leads s.fields

      parts : Stands p at head (at + 12) × Stands p (at + 12) (fields_of s.fields ++ tables) (at + block_size s)
      parts = split_to head (fields_of s.fields ++ tables) (at + 12) refl stands

      -- Number k of the block's head.
      head_is : (k : ℕ) → k < 12 → word p (at + k) ≡ get_or head k 0
      head_is k h = number_at parts.0 k h

      fields_are : Stands p (at + 12) (fields_of s.fields) (at + 12 + 7 * fields)
          × Stands p (at + 12 + 7 * fields) tables (at + block_size s)
      fields_are =
          split_to (fields_of s.fields) tables (at + 12 + 7 * fields) (omega (arith, length_fields s.fields))
          parts.1

      datas_are : Stands p (at + 12 + 7 * fields) (datas_of s.datas) (at + 12 + 7 * fields + 2 * datas)
          × Stands p (at + 12 + 7 * fields + 2 * datas) (table p from leads s.fields) (at + block_size s)
      datas_are =
          split_to (datas_of s.datas) (table p from leads s.fields) (at + 12 + 7 * fields + 2 * datas)
          (omega (arith, length_datas s.datas)) fields_are.1

      shape_is : shape_at p at ≡ s
      shape_is =
          rw (head_is 2 (omega arith), head_is 3 (omega arith), head_is 5 (omega arith), head_is 10 (omega arith))
          (rw (
            fields_stand p s.fields (at + 12) _ fits.named fields_are.0,
            datas_stand p s.datas (at + 12 + 7 * fields) _ datas_are.0,
          ) refl)

      block_is : IsBlock p at
      block_is =
          record {
            short = short;
            sized = sized;
            few_fields = rw (head_is 3 (omega arith)) fits.few_fields;
            few_groups = rw (head_is 4 (omega arith)) fits.few_groups;
            few_datas = rw (head_is 5 (omega arith)) fits.few_datas;
            fields_fit = rw (head_is 3 (omega arith)) fields_are.0.fits;
            datas_fit = rw (head_is 10 (omega arith), head_is 5 (omega arith)) datas_are.0.fits;
            table_fits = rw (head_is 11 (omega arith), head_is 3 (omega arith)) (omega (arith, datas_are.1.fits));
            good = subst (λ (z : Shape). shape_good z ≡ true) (sym shape_is) fits.good;
            since = rw (head_is 1 (omega arith)) old;
            rising = rises (λ j. word p (at + 12 + 7 * j + 5)) _ (sinces_next (lists_at p) p (version_at p) _ 0 (at + 12)
                (subst (λ (z : Shape). rising (version_at p) 0 (field_sinces z.fields) ≡ true) (sym shape_is)
                fits.sinces));
            datas_here = λ v h.
                ap (λ (z : Shape). present v (data_sinces z.datas)) shape_is
                ∙ present_up v (version_at p) _ fits.data_since h ∙ length-map s.datas (λ (d : Data). d.since)
                ∙ sym (head_is 5 (omega arith));
            needs = λ v h.
                head_is 6 (omega arith)
                ∙ need_up (version_at p) v 0 s.fields (rising_up _ _ _ _ (le_refl _) fits.sinces) h
                ∙ ap (λ (z : Shape). need v z) (sym shape_is);
            counts = rw (head_is 7 (omega arith), head_is 4 (omega arith), head_is 5 (omega arith)) refl;
            derived = λ j h.
                subst (λ (z : ℕ). Derived p (z + 6 * j) (field_at p (at + 12 + 7 * j))) (sym (head_is 11 (omega arith)))
                (table_stands p from leads s.fields s.length 0 (at + 12) _ _ _ fits.named
                (and_right _ _ fits.good) fields_are.0 datas_are.1 j (rw (head_is 3 (omega arith)) at h));
          }

  pub row_stands : (depth at to : ℕ) (gs : Groups) → Fits (lists_at p) (version_at p) depth gs
      → Stands p at (groups_of (lists_at p) from (is_big p) (version_at p) gs at) to → Read p depth at gs
  unfolding IsRow groups_at groups_of groups_size group_sinces Fits
  row_stands zero at to none f s = record { row = tt; tree = refl }
  row_stands (suc depth) at to none f s = record { row = tt; tree = refl }
  row_stands zero at to (more i since sh inner rest) f s = absurd f
  row_stands (suc depth) at to (more i since sh inner rest) f s =
      let numbers = groups_of (lists_at p) from (is_big p) (version_at p) in
      let length-of = length_groups (lists_at p) from (is_big p) (version_at p) in
      let x = at + block_size sh in
      let y = x + groups_size inner in
      let b = block_of (lists_at p) from (is_big p) (version_at p) i since sh (count inner) y at in
      let o = split_to b (numbers inner x ++ numbers rest y) x
      (omega (arith, length_block (lists_at p) from (is_big p) (version_at p) i since sh (count inner) y at)) s in
      let q = split_to (numbers inner x) (numbers rest y) y (omega (arith, length-of inner x)) o.1 in
      let l = row_stands depth x y inner f.2 q.0 in
      let r = row_stands (suc depth) y to rest f.3 q.1 in
      let is = head_is i since sh inner y at f.0 f.1 o.0 in
      record {
        row = (
          block_is i since sh inner y at f.0 f.1 o.0,
          rw (is 4 (omega arith), is 9 (omega arith)) l.row,
          rw (is 8 (omega arith)) r.row,
        );
        tree = rw (
          first_at o.0,
          is 1 (omega arith),
          shape_is i since sh inner y at f.0 f.1 o.0,
          is 4 (omega arith),
          is 9 (omega arith),
          is 8 (omega arith),
          l.tree,
          r.tree,
        ) refl;
      }
