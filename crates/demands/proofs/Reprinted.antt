-- The second round trip, its octets: a message with the book's own block lengths and zero padding is printed from its
-- own tree, with itself as pool, as it stands.
use mathlib.Core.Path.{◌∙◌, ◌≡◌, ap, refl, subst, sym}
use mathlib.Core.Bool.{Bool, false, true}
use mathlib.Core.List.{List, [], ◌++◌, ◌∷◌, map}
use Prim.Native.Nat.{◌+◌, ◌-◌, ◌≤◌, suc, zero, ℕ}
use native.Mathlib.Omega.{arith}
use lib.Dec.{eqb}
use lib.ListN.{drop, length, length-replicate, replicate, take}
use borrow.Author.Tests.{eqb-true, le-leb, leb-true}
use Rattle.layout.specs.Result.{Each, Result, ◌and◌, done, when◌then◌else◌}
use Rattle.layout.specs.Octets.{AllOctets, number16, number_at, octets_of, text_length}
use Rattle.layout.specs.Types.{TypeRow, classify, in_range, type_at, value_of}
use Rattle.layout.specs.Lists.{beside}
use Rattle.layout.specs.Book.{Data, Field, Groups, Shape, data_sinces, end, field_sinces, is_array, is_char, is_optional}
use Rattle.layout.specs.Book.{more, none}
use Rattle.layout.specs.BookRules.{fields_good, length_good}
use Rattle.layout.specs.Values.{Values, entry, group, nil}
use Rattle.layout.specs.Message.{Dimension, Entry, array_at, dimension_size, inside, read_block, read_data, read_datas}
use Rattle.layout.specs.Message.{read_entries, read_field, read_groups}
use Rattle.layout.specs.Writing.{block_octets, counts_of, data_octets, datas_length, dimension_of, entries_in, field_octets}
use Rattle.layout.specs.Writing.{row_length, row_octets, span_of}
use Rattle.layout.specs.Demands.{AllSound, OwnBlocks, Sound, ZeroPadding, ZeroTail, Zeros}
use Rattle.demands.proofs.Read.{DimensionRead, data_read_lem, datas_read_lem, group_read_lem}
use Rattle.demands.proofs.Reread.{no_datas_lem, no_groups_lem}
use Rattle.layout.proofs.ListLaws.{beside_sound}
use Rattle.layout.proofs.Fields.{field_good_lem, size_array, size_plain}
use Rattle.layout.proofs.Present.{GoodGroups, GoodShape, UpTo, groups_in_lem}
use Rattle.layout.proofs.Results.{and_right, done_inj, inv_bind, inv_must}
use Rattle.layout.proofs.Stands.{AreAt, Stands, join, nothing_stands, numbers_stand, octets_stand, slice_stands}
use Rattle.layout.proofs.Texts.{text_within}
use Rattle.layout.proofs.TypeLaws.{octets_value}
use Rattle.layout.proofs.Counts.{counts_written}
use Rattle.layout.proofs.Lengths.{counts_long}
use Rattle.layout.specs.declared.Answer.{Answer}
use Rattle.layout.specs.declared.Answer.TheVariants.{Group, Null, Number, Octets, OutOfRange}

module _ (big : Bool) (m : List ℕ) (v : ℕ) (octets : AllOctets m) where
  -- ---- fields

  zeros_stand : (a b n : ℕ) → Zeros m a b → n ≡ b - a → a ≤ b → b ≤ length m → Stands m a (replicate n 0) b
  zeros_stand a b n z e h k =
      let l : length (replicate {A = ℕ} n 0) ≡ b - a = length-replicate {A = ℕ} n 0 ∙ e in
      record { whole = rw (l, e) z; ends = omega (arith, l); fits = k }

  class_stands : (f : Field) (p : ℕ) → is_array f ≡ false → let k = type_at f.type in
      let a = classify k (is_optional f) (value_of k (number_at big k.width m p)) in
      p + k.width ≤ length m → Sound a → Stands m p (field_octets big m f a) (p + k.width)
  unfolding classify when◌then◌else◌ field_octets Sound
  class_stands f p plain h s = go (is_optional f and eqb y k.null) refl (in_range k y) s
    where
      k : TypeRow
      k = type_at f.type

      y : ℕ
      y = value_of k (number_at big k.width m p)

      go : (b : Bool) → (is_optional f and eqb y k.null) ≡ b → (c : Bool)
          → Sound (when b then Null else when c then Number y else OutOfRange y)
          → Stands m p (field_octets big m f (when b then Null else when c then Number y else OutOfRange y)) (p + k.width)
      go true e c s =
          let n : y ≡ k.null = eqb-true y k.null (and_right _ _ e) in
          rw plain (octets_stand big m octets k.width p k.null h
          (ap (octets_of big k.width) (sym n) ∙ octets_value big f.type _))
      go false e true s = octets_stand big m octets k.width p y h (octets_value big f.type _)
      go false e false s = absurd s

  array_stands : (f : Field) (at : ℕ) → is_array f ≡ true → at + f.offset + f.length ≤ length m → ZeroTail m at f
      → let p = at + f.offset in Stands m p (field_octets big m f (array_at m p f)) (p + f.length)
  unfolding field_octets span_of array_at when◌then◌else◌ ◌and◌
  array_stands f at y h tail = go (is_char f) refl (is_optional f and eqb n 0) refl
    where
      p : ℕ
      p = at + f.offset

      n : ℕ
      n = text_length (take f.length (drop p m))

      zeros : is_char f ≡ true → Zeros m (p + n) (p + f.length)
      zeros c = tail (rw (y, c) refl)

      go : (c : Bool) → is_char f ≡ c → (b : Bool) → (is_optional f and eqb n 0) ≡ b
          → Stands m p (field_octets big m f (when c then (when b then Null else Octets p n) else Octets p f.length))
          (p + f.length)
      go true c true e =
          let q : p + n ≡ p = omega (arith, eqb-true n 0 (and_right (is_optional f) (eqb n 0) e)) in
          rw y (zeros_stand p (p + f.length) f.length (rw q at (zeros c)) (omega arith) (omega arith) h)
      go true c false e =
          let short = text_within f.length (drop p m) in
          join _ _ (slice_stands m p n (omega arith))
          (zeros_stand (p + n) (p + f.length) (f.length - n) (zeros c) (omega arith) (omega arith) h)
      go false c b e =
          let q : f.length - f.length ≡ 0 = omega arith in
          rw q (join _ _ (slice_stands m p f.length h) (nothing_stands m (p + f.length) h))

  field_stands : (f : Field) (at : ℕ) → length_good f ≡ true → f.since ≤ v → at + end f ≤ length m
      → ZeroTail m at f → Sound (read_field big m v at f)
      → Stands m (at + f.offset) (field_octets big m f (read_field big m v at f)) (at + end f)
  unfolding read_field when◌then◌else◌
  field_stands f at g u h tail s = rw (le-leb f.since v u) (go (is_array f) refl (rw (le-leb f.since v u) at s))
    where
      k : TypeRow
      k = type_at f.type

      p : ℕ
      p = at + f.offset

      number : Answer
      number = classify k (is_optional f) (value_of k (number_at big k.width m p))

      a : Bool → Answer
      a y = when y then array_at m p f else beside f.names number

      go : (y : Bool) → is_array f ≡ y → Sound (a y) → Stands m p (field_octets big m f (a y)) (at + end f)
      go true y s =
          let q : p + f.length ≡ at + end f = omega (arith, size_array f g y) in
          rw (← q) (array_stands f at y (omega (arith, q)) tail)
      go false y s =
          let q : p + k.width ≡ at + end f = omega (arith, size_plain f g y) in
          let e = beside_sound f.names number s in
          rw (← q, e) (class_stands f p y (omega (arith, q)) (rw e at s))

  fields_stand : (fs : List Field) (base len from : ℕ) → fields_good len from fs ≡ true → UpTo v (field_sinces fs)
      → from ≤ len
      → base + len ≤ length m → ZeroPadding m base len from fs → Each (ZeroTail m base) fs
      → Each Sound (map (read_field big m v base) fs)
      → Stands m (base + from) (block_octets big m len from fs (map (read_field big m v base) fs)) (base + len)
  unfolding Each ZeroPadding block_octets
  fields_stand [] base len from g u w h p z s =
      zeros_stand (base + from) (base + len) (len - from) p (omega arith) (omega arith) h
  fields_stand (f ∷ fs) base len from g u w h p z s =
      let k = field_good_lem len from f fs g in
      join _ _ (zeros_stand (base + from) (base + f.offset) (f.offset - from) p.0 (omega arith)
      (omega (arith, k.placed)) (omega (arith, k.ended)))
      (join _ _ (field_stands f base k.length u.0 (omega (arith, k.ended)) z.0 s.0)
      (fields_stand fs base len (end f) k.rest u.1 k.ended h p.1 z.1 s.1))

  -- ---- data

  data_stands : (at : ℕ) (a : Answer × ℕ) (rest : List Answer) (to : ℕ) → read_data big m at ≡ done a
      → Stands m a.1 (data_octets big m rest) to
      → Stands m at (data_octets big m (a.0 ∷ rest)) to × (a.1 ≡ at + (2 + (span_of a.0).1))
  unfolding data_octets span_of
  data_stands at a rest to e s =
      let r = data_read_lem big m v at a e in
      subst (λ (x : Answer × ℕ). Stands m x.1 (data_octets big m rest) to
      → Stands m at (data_octets big m (x.0 ∷ rest)) to
      × (x.1 ≡ at + (2 + (span_of x.0).1))) r.is
      (λ o. (
        join _ _ (octets_stand big m octets 2 at (number16 big m at) r.head refl)
            (join _ _ (slice_stands m (at + 2) (number16 big m at) r.fits) o),
        omega arith,
      )) s

  datas_stand : (ds : List Data) (at : ℕ) (r : List Answer × ℕ) → UpTo v (data_sinces ds) → at ≤ length m
      → read_datas big m v ds 0 at ≡ done r
      → Stands m at (data_octets big m r.0) r.1 × (r.1 ≡ at + datas_length r.0)
  unfolding Each datas_length
  datas_stand [] at r u h e =
      subst (λ (x : List Answer × ℕ). Stands m at (data_octets big m x.0) x.1 × (x.1 ≡ at + datas_length x.0))
      (done_inj (sym (no_datas_lem big m v at) ∙ e))
      (unfold data_octets in nothing_stands m at h, omega arith)
  datas_stand (d ∷ ds) at r u h e =
      let w = datas_read_lem big m v d ds at r u.0 e in
      let k = data_read_lem big m v at w.first w.reads in
      let fits : w.first.1 ≤ length m = subst (λ (x : Answer × ℕ). x.1 ≤ length m) k.is k.fits in
      let ih = datas_stand ds w.first.1 w.rest u.1 fits w.after in
      let b = data_stands at w.first w.rest.0 w.rest.1 w.reads ih.0 in
      subst (λ (x : List Answer × ℕ). Stands m at (data_octets big m x.0) x.1 × (x.1 ≡ at + datas_length x.0))
      w.is
      (b.0, omega (arith, b.1, ih.1))

-- ---- blocks, entries, groups

module _ (counted big : Bool) (m : List ℕ) (v : ℕ) (octets : AllOctets m) where
  -- A row that was read stands as it is printed, and is as long as the formula says.
  abbrev Printed : Shape → Groups → ℕ → (Values × ℕ) → Type 0
  Printed s gs at r =
      Stands m at (row_octets counted big m s gs r.0) r.1 × (r.1 ≡ at + row_length counted s gs r.0)

  abbrev Reprints : Shape → Groups → (ℕ → Result (Values × ℕ)) → Type 0
  Reprints s gs f =
      (at : ℕ) (r : Values × ℕ) → at ≤ length m → OwnBlocks counted big m s gs at r.0 → AllSound r.0
      → f at ≡ done r → Printed s gs at r

  abbrev pub entry_printed : Shape → Groups → Entry → List ℕ
  entry_printed s gs b = block_octets big m s.length 0 s.fields b.0
      ++ (row_octets counted big m s gs b.1 ++ data_octets big m b.2)

  pub block_stands : (s : Shape) (gs : Groups) (f : ℕ → Result (Values × ℕ)) (at : ℕ) (b : Entry) → GoodShape v s
      → Reprints s gs f
      → ZeroPadding m at s.length 0 s.fields → Each (ZeroTail m at) s.fields
      → OwnBlocks counted big m s gs (at + s.length) b.1 → Each Sound b.0 → AllSound b.1
      → read_block big m v s f 0 s.length at ≡ done b
      → Stands m at (entry_printed s gs b) b.3 × (b.3 ≡ at + row_length counted s gs (entry b.0 b.1 b.2 nil))
  unfolding read_block row_length
  block_stands s gs f at b good ih pad tails own in₁ in₂ e =
      let p = inv_bind _ _ _ e in
      let q = inv_bind _ _ _ p.next in
      let k = inv_bind _ _ _ q.next in
      let fits : at + s.length ≤ length m = leb-true (at + s.length) (length m) (inv_must _ _ _ _ p.first) in
      subst (λ (x : Entry). OwnBlocks counted big m s gs (at + s.length) x.1 → Each Sound x.0 → AllSound x.1
      → Stands m at (entry_printed s gs x) x.3
      × (x.3 ≡ at + (s.length + (row_length counted s gs x.1 + (datas_length x.2 + 0))))) (done_inj k.next)
      (λ own' in₁' in₂'.
      let g = ih (at + s.length) q.value fits own' in₂' q.first in
      let d = datas_stand big m v octets s.datas q.value.1 k.value good.datas_in g.0.fits
      k.first in (
        join _ _ (to_zero (fields_stand big m v octets s.fields at s.length 0 good.fields good.fields_in
            (omega arith) fits pad tails in₁')) (join _ _ g.0 d.0),
        omega (arith, g.1, d.1),
      )) own in₁ in₂
    where
      to_zero : {at to : ℕ} {xs : List ℕ} → Stands m (at + 0) xs to → Stands m at xs to
      to_zero {at} st = let q : at + 0 ≡ at = omega arith in rw q at st

  entries_stand : (s : Shape) (gs : Groups) (f : ℕ → Result (Values × ℕ)) (k : ℕ) → GoodShape v s → Reprints s gs f
      → Reprints s gs (read_entries k (read_block big m v s f 0 s.length))
  unfolding read_entries OwnBlocks AllSound row_octets row_length
  entries_stand s gs f zero good ih at r h own sound e =
      subst (Printed s gs at) (done_inj e) (nothing_stands m at h, omega arith)
  entries_stand s gs f (suc k) good ih at r h own sound e =
      let p = inv_bind _ _ _ e in
      let q = inv_bind _ _ _ p.next in
      subst (λ (x : Values × ℕ). OwnBlocks counted big m s gs at x.0 → AllSound x.0 → Printed s gs at x)
      (done_inj q.next)
      (λ o i.
      let b = block_stands s gs f at p.value good ih o.0 o.1 o.2 i.0 i.1 p.first in
      let rest = entries_stand s gs f k good ih p.value.3 q.value b.0.fits
      (subst (λ (x : ℕ). OwnBlocks counted big m s gs x q.value.0) (sym b.1) o.3) i.2 q.first in
      (join _ _ b.0 rest.0, omega (arith, b.1, rest.1))) own sound

  group_stands : (i since : ℕ) (s : Shape) (inner rest : Groups) (s₀ : Shape) (at : ℕ) (d : Dimension)
      (es others : Values × ℕ)
      → DimensionRead counted big m at d → number16 big m at ≡ s.length
      → AreAt big m (at + 4) (counts_of counted inner s.datas)
      → Printed s inner (at + dimension_size counted) es
      → Printed s₀ rest es.1 others
      → Printed s₀ (more i since s inner rest) at (group (Group d.entries) es.0 others.0, others.1)
  unfolding row_octets row_length entries_in AreAt
  group_stands i since s inner rest s₀ at d es others r n c a b =
      let four : at + 4 ≡ at + 2 + 2 = omega arith in
      let counts = subst (λ (x : ℕ). AreAt big m x (counts_of counted inner s.datas)) four c in (
        join _ _ (numbers_stand big m octets at (at + dimension_size counted) (dimension_of counted s inner d.entries)
            (omega (arith, counts_long counted inner s.datas)) r.fits (n, (sym r.entries_is, counts)))
            (join _ _ a.0 b.0),
        omega (arith, a.1, b.1),
      )

  pub groups_stand : (gs : Groups) (s₀ : Shape) (levels : ℕ) → GoodGroups v levels gs
      → Reprints s₀ gs (read_groups counted v big m v gs levels 0)
  unfolding GoodGroups OwnBlocks AllSound
  groups_stand none s₀ levels good at r h own sound e =
      subst (Printed s₀ none at) (done_inj (sym (no_groups_lem big m v counted levels at) ∙ e))
      (unfold row_octets row_length in (nothing_stands m at h, omega arith))
  groups_stand (more i since s inner rest) s₀ levels good at r h own sound e =
      let w = group_read_lem counted big m v i since s inner rest levels at r good.0.is_in e in
      let d = w.dimension in
      let gs = more i since s inner rest in
      let shape = good.0.shape in
      subst (λ (x : Values × ℕ). OwnBlocks counted big m s₀ gs at x.0 → AllSound x.0 → Printed s₀ gs at x)
      w.is
      (λ o k.
      let a = entries_stand s inner (read_groups counted v big m v inner (inside levels) 0) w.sizes.entries shape
      (groups_stand inner s (inside levels) good.1) (at + dimension_size counted) w.entries d.fits o.1 k.0
      (rw (d.length_is, o.0) at w.reads) in
      let c = groups_stand rest s₀ levels good.2 w.entries.1 w.others a.0.fits
      (subst (λ (x : ℕ). OwnBlocks counted big m s₀ rest x w.others.0) (sym a.1) o.2) k.1 w.after in
      group_stands i since s inner rest s₀ at w.sizes w.entries w.others d o.0
      (counts_written counted v inner s.datas big m (at + 4) (groups_in_lem v (inside levels) inner good.1)
      shape.datas_in w.counts) a c) own sound
