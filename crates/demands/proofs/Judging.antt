-- A listing is judged one record after the other: what a record that stands in it is judged to be, and a row by its
-- first and the rest.
use mathlib.Core.Path.{◌∙◌, ◌≡◌, ap, refl, sym}
use mathlib.Core.Bool.{Bool, false, true}
use mathlib.Core.List.{List, [], ◌∷◌}
use Prim.Native.Nat.{◌*◌, ◌+◌, ◌<◌, ◌≤◌, suc, ℕ}
use native.Mathlib.Omega.{arith}
use lib.Dec.{eqb}
use lib.ListN.{get_or, length}
use borrow.Author.Tests.{eq-eqb, le-leb, lt-ltb}
use Rattle.layout.specs.Result.{Result, ◌>>=◌, ◌and◌, ◌or◌, done, when◌then◌else◌, must}
use Rattle.layout.specs.Octets.{null16}
use Rattle.layout.specs.Types.{in_range, type_at}
use Rattle.layout.specs.Lists.{has}
use Rattle.layout.specs.Book.{Data, Field, Groups, Shape, Template, is_optional, more, none}
use Rattle.layout.specs.Values.{Values, entry, group, nil, record_of}
use Rattle.layout.specs.Writing.{first, is_there, judge_block, judge_data, judge_datas, judge_entries, judge_field}
use Rattle.layout.specs.Writing.{judge_fields, judge_groups, judge_listing, judge_null, judge_number, judge_octets, judge_text}
use Rattle.layout.specs.Writing.{second, third}
use Rattle.layout.proofs.Stands.{Stands, three_stand}
use Rattle.layout.specs.declared.Answer.{Answer}
use Rattle.layout.specs.declared.Answer.TheVariants.{Group, Null, Number, Octets}

module _ (l m : List ℕ) where
  -- ---- records

  pub record RecordIs (i a b c : ℕ) : Type 0 where
    pub there : is_there l i ≡ true
    pub is₁ : first l i ≡ a
    pub is₂ : second l i ≡ b
    pub is₃ : third l i ≡ c

  pub record_is : (i a b c to : ℕ) → Stands l (3 * i) (a ∷ b ∷ c ∷ []) to → RecordIs i a b c
  record_is i a b c to s =
      let fits : 3 * i + 3 ≤ length l = omega (arith, s.ends, s.fits) in
      let e : first l i ∷ second l i ∷ third l i ∷ [] ≡ a ∷ b ∷ c ∷ [] = sym (three_stand l (3 * i) fits).whole
      ∙ s.whole in
      record {
        there = le-leb (3 * i + 3) (length l) fits;
        is₁ = ap (λ (x : List ℕ). get_or x 0 0) e;
        is₂ = ap (λ (x : List ℕ). get_or x 1 0) e;
        is₃ = ap (λ (x : List ℕ). get_or x 2 0) e;
      }

  pub octets_judged : (fits : Bool) (i p n to : ℕ) → fits ≡ true → p + n ≤ length m
      → Stands l (3 * i) (record_of (Octets p n)) to
      → judge_octets l m fits i ≡ done (Octets p n)
  unfolding judge_octets must ◌>>=◌ record_of ◌and◌
  octets_judged fits i p n to y h s =
      let r = record_is i 2 p n to s in
      rw (r.there, r.is₁, r.is₂, r.is₃, le-leb (p + n) (length m) h, y) refl

  pub number_judged : (f : Field) (i x to : ℕ) → in_range (type_at f.type) x ≡ true
      → eqb x (type_at f.type).null ≡ false → has f.names x ≡ true
      → Stands l (3 * i) (record_of (Number x)) to → judge_number l f i ≡ done (Number x)
  unfolding judge_number when◌then◌else◌ must ◌>>=◌ record_of ◌and◌ ◌or◌
  number_judged f i x to o n y s =
      let r = record_is i 0 x 0 to s in
      rw (r.there, r.is₁, r.is₂, r.is₃, o, n, y) refl

  pub null_judged : (f : Field) (i to : ℕ) → is_optional f ≡ true → Stands l (3 * i) (record_of Null) to
      → judge_number l f i ≡ done Null
  unfolding judge_number when◌then◌else◌ must ◌>>=◌ record_of ◌and◌ ◌or◌
  null_judged f i to o s =
      let r = record_is i 1 0 0 to s in
      rw (r.there, r.is₁, r.is₂, r.is₃, o) refl

  -- ---- rows

  pub null_text_judged : (f : Field) (i to : ℕ) → is_optional f ≡ true → Stands l (3 * i) (record_of Null) to
      → judge_text l m f i ≡ done Null
  unfolding judge_null when◌then◌else◌ must ◌>>=◌ record_of ◌and◌
  null_text_judged f i to o s =
      let r = record_is i 1 0 0 to s in
      rw (r.there, r.is₁, r.is₂, r.is₃, o) refl

  pub fields_next : (f : Field) (fs : List Field) (i j : ℕ) (a : Answer) (r : List Answer)
      → judge_field l m f i ≡ done a
      → judge_fields l m fs (suc i) ≡ done (r, j) → judge_fields l m (f ∷ fs) i ≡ done (a ∷ r, j)
  unfolding judge_fields ◌>>=◌
  fields_next f fs i j a r e q = rw (e, q) refl

  pub fields_stop : (i : ℕ) → judge_fields l m [] i ≡ done ([], i)
  unfolding judge_fields
  fields_stop i = refl

  pub datas_next : (d : Data) (ds : List Data) (i j : ℕ) (a : Answer) (r : List Answer) → judge_data l m i ≡ done a
      → judge_datas l m ds (suc i) ≡ done (r, j) → judge_datas l m (d ∷ ds) i ≡ done (a ∷ r, j)
  unfolding judge_datas ◌>>=◌
  datas_next d ds i j a r e q = rw (e, q) refl

  pub datas_stop : (i : ℕ) → judge_datas l m [] i ≡ done ([], i)
  unfolding judge_datas
  datas_stop i = refl

  pub block_next : (s : Shape) (f : ℕ → Result (Values × ℕ)) (i j k e : ℕ) (fs : List Answer) (g : Values)
      (ds : List Answer)
      → judge_fields l m s.fields i ≡ done (fs, j) → f j ≡ done (g, k)
      → judge_datas l m s.datas k ≡ done (ds, e)
      → judge_block l m s f i ≡ done (fs, g, ds, e)
  unfolding judge_block ◌>>=◌
  block_next s f i j k e fs g ds a b c = rw (a, b, c) refl

  pub entries_next : (s : Shape) (f : ℕ → Result (Values × ℕ)) (k i j e : ℕ) (fs : List Answer) (g : Values) (ds : List Answer) (r : Values)
      → judge_block l m s f i ≡ done (fs, g, ds, j)
      → judge_entries l m k (judge_block l m s f) j ≡ done (r, e)
      → judge_entries l m (suc k) (judge_block l m s f) i ≡ done (entry fs g ds r, e)
  unfolding judge_entries ◌>>=◌
  entries_next s f k i j e fs g ds r a b = rw (a, b) refl

  pub entries_stop : (s : Shape) (f : ℕ → Result (Values × ℕ)) (i : ℕ) → judge_entries l m 0 (judge_block l m s f) i ≡ done (nil, i)
  unfolding judge_entries
  entries_stop s f i = refl

  pub groups_next : (id since : ℕ) (s : Shape) (inner rest : Groups) (i j k e : ℕ) (es gs : Values) → RecordIs i 4 k 0
      → k < null16
      → judge_entries l m k (judge_block l m s (judge_groups l m inner)) (suc i) ≡ done (es, j)
      → judge_groups l m rest j ≡ done (gs, e)
      → judge_groups l m (more id since s inner rest) i ≡ done (group (Group k) es gs, e)
  unfolding judge_groups must ◌>>=◌ ◌and◌
  groups_next id since s inner rest i j k e es gs r h a b =
      rw (r.there, r.is₁, r.is₂, r.is₃, lt-ltb k null16 h, a, b) refl

  pub groups_stop : (i : ℕ) → judge_groups l m none i ≡ done (nil, i)
  unfolding judge_groups
  groups_stop i = refl

  -- Elements are judged to be a, up to the record at `to`.
  abbrev pub Judges : {A : Type 0} → (ℕ → Result (A × ℕ)) → ℕ → ℕ → A → Type 0
  Judges f i to a = (j : ℕ) × (to ≡ 3 * j) × (f i ≡ done (a, j))

  -- The whole listing is judged as its root block, where no record is left over.
  pub all_judged : (t : Template) (j : ℕ) (fs : List Answer) (g : Values) (ds : List Answer)
      → judge_block l m t.shape (judge_groups l m t.groups) 0 ≡ done (fs, g, ds, j)
      → 3 * j ≡ length l
      → judge_listing l m t ≡ done (entry fs g ds nil)
  unfolding judge_listing must ◌>>=◌
  all_judged t j fs g ds e h = rw (e, eq-eqb (3 * j) (length l) h) refl
