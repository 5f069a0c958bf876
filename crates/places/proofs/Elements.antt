-- What each element of an entry is, as the code finds it.
use mathlib.Core.Path.{◌∙◌, ◌≡◌, ap, refl, sym}
use mathlib.Core.Bool.{Bool, true}
use mathlib.Core.List.{List, [], ◌∷◌, map}
use Prim.Native.Nat.{ℕ, zero, suc, ◌+◌, ◌-◌, ◌*◌, ◌≤◌, ◌<◌}
use native.Mathlib.Omega.{arith}
use lib.Dec.{leb}
use lib.ListN.{get_or, length}
use borrow.Author.Tests.{ltb-true}
use Rattle.std.specs.Prelude.{IsOk, Ok}
use Rattle.layout.specs.Result.{Each, Result, ◌>>=◌, done, when◌then◌else◌}
use Rattle.layout.specs.Octets.{number16}
use Rattle.layout.specs.Book.{Field, Groups, Shape, more, need}
use Rattle.layout.specs.BookRules.{parse_datas, parse_fields, word}
use Rattle.layout.specs.Message.{in_row, read_data, read_datas, read_field}
use Rattle.layout.specs.Operations.{told}
use Rattle.layout.specs.Reading.{has_element}
use Rattle.layout.specs.Values.{Values, element_of, group_of}
use Rattle.layout.specs.declared.Answer.{Answer}
use Rattle.layout.specs.declared.Element.{Element}
use Rattle.layout.specs.declared.Answer.TheVariants.{Absent, Group, Octets}
use Rattle.layout.proofs.Results.{and_right, bind_done, done_inj, inv_bind, inv_both}
use Rattle.prepared.specs.Names.{lists_at}
use Rattle.prepared.specs.Positions.{BlockAt, field_at, many_fields, fields_from, many_groups, groups_from}
use Rattle.prepared.specs.Positions.{inner_at, is_big, shape_at, table_from}
use Rattle.walk.specs.Walks.{Bounded, after_datas, groups_by, row_at, values_end, walked}
use Rattle.walk.specs.declared.Walked.{Walked}
use Rattle.wire.proofs.Steps.{steps}
use Rattle.counts.proofs.Groups.{group_good}
use Rattle.walk.proofs.Groups.{row_absent, row_present}
use Rattle.fields.specs.Readable.{Fits, Readable}
use Rattle.fields.proofs.Fields.{fields_fit_lem}
use Rattle.prepared.proofs.Open.{field_here}
use Rattle.places.specs.Seeks.{row_after}
use Rattle.places.specs.Elements.{Accepted, Done, count_of, data_read, datas_read, element_read, entry_read}
use Rattle.places.specs.Elements.{group_read, number_of}
use Rattle.places.specs.declared.Spot.{Spot}
use Rattle.places.proofs.Rows.{RowFrom, row_from, row_less}
use Rattle.places.proofs.Places.{group_halves, group_is_lem}
use Rattle.places.proofs.Leads.{BlockRead, block_read}
use Rattle.places.proofs.Blocks.{has_element_lem}

-- What was done is told.
pub done_ok : {A B : Type 0} (f : A → B) {r : Result A} → Done r → IsOk (told f r)
unfolding told
done_ok f d = rw d.is refl

told_is : {A B : Type 0} (f : A → B) {r : Result A} {a : A} → r ≡ done a → (b : B) → Ok b ≡ told f r → b ≡ f a
unfolding told
told_is f d b e = let is = rw d at e in cc

pub ends_inside : (m : List ℕ) (at own : ℕ) (w : Walked) → Bounded m at own (Ok w) → w.next ≤ length m
unfolding Bounded
ends_inside m at own w b = b.1

-- ---- fields

pub field_in : (big : Bool) (m : List ℕ) (v at : ℕ) (p : List ℕ) (n k f : ℕ) → k < n
    → get_or (map (read_field big m v at) (parse_fields (lists_at p) p n f)) k Absent
    ≡ read_field big m v at (field_at p (f + 7 * k))
unfolding parse_fields
field_in big m v at p zero k f h = absurd (omega arith)
field_in big m v at p (suc n) zero f h = let q : f + 7 * 0 ≡ f = omega arith in rw q refl
field_in big m v at p (suc n) (suc k) f h =
    let q : f + 7 * suc k ≡ f + 7 + 7 * k = omega arith in
    rw q (field_in big m v at p n k (f + 7) (omega (arith, h)))

field_fits : (P : Field → Type 0) (p : List ℕ) (n k f : ℕ) → k < n → Each P (parse_fields (lists_at p) p n f)
    → P (field_at p (f + 7 * k))
unfolding parse_fields Each
field_fits P p zero k f h e = absurd (omega arith)
field_fits P p (suc n) zero f h e = let q : f + 7 * 0 ≡ f = omega arith in rw q e.0
field_fits P p (suc n) (suc k) f h e =
    let q : f + 7 * suc k ≡ f + 7 + 7 * k = omega arith in
    rw q (field_fits P p n k (f + 7) (omega (arith, h)) e.1)

pub field_readable : (p : List ℕ) (depth a : ℕ) (m : List ℕ) (v l at k : ℕ) → BlockAt p depth a
    → need v (shape_at p a) ≤ l → at + l ≤ length m → k < many_fields p a
    → Readable p (fields_from p a + 7 * k) (table_from p a + 6 * k) m v at
field_readable p depth a m v l at k stands enough fits less =
    record {
      field = field_here p a (many_fields p a - k) _ _ stands.block (omega arith) (omega arith) (omega arith)
          (omega arith);
      fits = field_fits (Fits m v at) p (many_fields p a) k (fields_from p a) less
          (fields_fit_lem m v at l (shape_at p a).length 0 0 (shape_at p a).fields (and_right _ _ stands.block.good)
          (omega arith) enough fits);
    }

-- ---- a group

-- A group with this since at `at` that was read is `is`.
pub record GroupHere (big : Bool) (m : List ℕ) (v since at : ℕ) (is : Answer) : Type 0 where
  pub absent : v < since → is ≡ Absent
  pub present : since ≤ v → (at + 4 ≤ length m) × (is ≡ Group (number16 big m (at + 2)))

first_group : (p m : List ℕ) (v depth i since : ℕ) (s : Shape) (inner rest : Groups) (n at : ℕ) (r : Values × ℕ)
    → groups_by p m v (more i since s inner rest) depth n at ≡ done r
    → GroupHere (is_big p) m v since at (group_of 0 r.0)
unfolding group_of
first_group p m v depth i since s inner rest n at r h =
    record {
      absent = λ l.
          let q = inv_bind _ _ _ (sym (row_absent p m v depth n at _ i since s inner rest refl l) ∙ h) in
          sym (ap (λ (d : Values × ℕ). group_of 0 d.0) (done_inj q.next));
      present = λ l.
          let o = inv_bind _ _ _ (sym (row_present p m v depth n at _ i since s inner rest refl l) ∙ h) in
          let q = inv_both _ _ _ _ o.next in
          let good = group_good _ _ _ _ _ _ _ _ _ o.first in
          (omega (arith, good.fits), sym (ap (λ (d : Values × ℕ). group_of 0 d.0) q.is) ∙ ap Group good.entries);
    }

-- Group k of the block at a, whose groups were read.
module _ (p : List ℕ) (depth a : ℕ) (stands : BlockAt p depth a) (m : List ℕ) (v at k : ℕ) (less : k < many_groups p a)
    (read : Done (row_at p depth (many_groups p a) (groups_from p a) m v 0 at)) where
  abbrev from : RowFrom p m v depth k (inner_at p depth a) 0 at read.value
  from = row_from p m v depth k (inner_at p depth a) 0 at read.value read.is

  pub groups_before : Done (row_at p depth k (groups_from p a) m v 0 at)
  groups_before =
      record { value = from.first; is = rw (group_halves p depth a k stands less).takes at from.passed }

  pub group_here : (w : Walked) → Ok w ≡ walked (values_end 0) (row_at p depth k (groups_from p a) m v 0 at)
      → GroupHere (is_big p) m v (word p (row_after p k (groups_from p a) + 1)) w.next
      (group_read k (row_at p depth (many_groups p a) (groups_from p a) m v 0 at))
  unfolding group_read groups_before
  group_here w e =
      rw (read.is, from.group, told_is _ groups_before.is w e)
      (first_group p m v depth _ _ _ _ _ 0 _ _ (rw (group_is_lem p depth a k stands less) at from.reads))

-- ---- data

module _ (big : Bool) (m : List ℕ) (v : ℕ) (p : List ℕ) where
  -- Data k of the data at place a that were read.
  record DataOf (k a at : ℕ) (r : List Answer × ℕ) : Type 0 where
    pub first : List Answer × ℕ
    pub one : Answer × ℕ
    pub passed : read_datas big m v (parse_datas p k a) 0 at ≡ done first
    pub reads : (when leb (word p (a + 2 * k + 1)) v then read_data big m first.1 else done (Absent, first.1))
        ≡ done one
    pub is : get_or r.0 k Absent ≡ one.0

  data_of : (n k a at : ℕ) (r : List Answer × ℕ) → k < n → read_datas big m v (parse_datas p n a) 0 at ≡ done r
      → DataOf k a at r
  unfolding read_datas parse_datas in_row
  data_of zero k a at r less h = absurd (omega arith)
  data_of (suc n) zero a at r less h =
      let d = inv_both _ _ _ _ h in
      let z : a + 2 * 0 + 1 ≡ a + 1 = omega arith in
      record {
        first = ([], at);
        one = d.value;
        passed = grind (arith, bind_done);
        reads = rw z d.first;
        is = sym (ap (λ (e : List Answer × ℕ). get_or e.0 0 Absent) d.is);
      }
  data_of (suc n) (suc k) a at r less h =
      let d = inv_both _ _ _ _ h in
      let on = data_of n k (a + 2) d.value.1 d.other (omega (arith, less)) d.second in
      let z : a + 2 * suc k + 1 ≡ a + 2 + 2 * k + 1 = omega arith in
      record {
        first = (d.value.0 ∷ on.first.0, on.first.1);
        one = on.one;
        passed = grind (arith, bind_done);
        reads = rw z on.reads;
        is = sym (ap (λ (e : List Answer × ℕ). get_or e.0 (suc k) Absent) d.is) ∙ on.is;
      }

  -- A data with this since at `at` that was read is `is`.
  pub record DataHere (since at : ℕ) (is : Answer) : Type 0 where
    pub absent : v < since → is ≡ Absent
    pub present : since ≤ v → (at + 2 ≤ length m) × (is ≡ Octets (at + 2) (number16 big m at))

  one_data : (since at : ℕ) (d : Answer × ℕ) → (when leb since v then read_data big m at else done (Absent, at)) ≡ done d
      → DataHere since at d.0
  unfolding when◌then◌else◌ read_data
  one_data since at d h = record { absent = λ l. grind (arith, steps); present = λ l. (grind (arith, steps), grind (arith, steps)) }

  module _ (n k a at : ℕ) (less : k < n) (read : Done (read_datas big m v (parse_datas p n a) 0 at)) where
    abbrev data_is : DataOf k a at read.value
    data_is = data_of n k a at read.value less read.is

    pub datas_before : Done (read_datas big m v (parse_datas p k a) 0 at)
    datas_before = record { value = data_is.first; is = data_is.passed }

    pub data_here : (x : ℕ) → Ok x ≡ told after_datas (read_datas big m v (parse_datas p k a) 0 at)
        → DataHere (word p (a + 2 * k + 1)) x (data_read k (read_datas big m v (parse_datas p n a) 0 at))
    unfolding data_read
    data_here x e =
        rw (read.is, data_is.is, told_is _ data_is.passed x e) (one_data _ _ _ data_is.reads)

-- The data come after the groups and the surplus ones.
module _ (p : List ℕ) (depth a : ℕ) (m : List ℕ) (v n at : ℕ) (read : Done (datas_read p depth a m v n at)) where
  abbrev row : Result (Values × ℕ)
  row = row_at p depth (many_groups p a) (groups_from p a) m v n at

  pub row_done : Done row
  row_done = let g = inv_bind row _ read.value read.is in record { value = g.value; is = g.first }

  -- They start at x.
  pub record DatasFrom (x : ℕ) : Type 0 where
    pub reads : Done (read_datas (is_big p) m v (shape_at p a).datas 0 x)
    pub same : datas_read p depth a m v n at ≡ read_datas (is_big p) m v (shape_at p a).datas 0 x

  pub datas_from : (w : Walked) → Ok w ≡ walked (values_end 0) row → DatasFrom w.next
  datas_from w e =
      let g = inv_bind row _ read.value read.is in
      rw (told_is _ g.first w e) record {
        reads = record { value = read.value; is = g.next };
        same = read.is ∙ sym g.next;
      }

-- ---- the elements of an entry that was accepted

module _ {p : List ℕ} {depth a : ℕ} {m : List ℕ} {v : ℕ} {e : Spot} (ok : Accepted p depth a m v e) where
  abbrev after : ℕ
  after = e.start + e.length

  abbrev parts : BlockRead (is_big p) m v (shape_at p a) (groups_by p m v (inner_at p depth a) depth e.groups) 0
      e.length e.start ok.reads.value
  parts = block_read (is_big p) m v _ _ _ _ _ _ ok.reads.is

  pub entry_fits : after ≤ length m
  entry_fits = parts.fits

  pub element_field : (k : ℕ) → k < many_fields p a
      → element_read (Element.Field k) (entry_read p depth a m v e)
      ≡ read_field (is_big p) m v e.start (field_at p (fields_from p a + 7 * k))
  unfolding element_read element_of
  element_field k less =
      rw (ok.reads.is, ← parts.fields)
      (field_in (is_big p) m v e.start p (many_fields p a) k (fields_from p a) less)

  pub entry_row_lem : Done (row_at p depth (many_groups p a) (groups_from p a) m v 0 after)
  entry_row_lem =
      record { value = _; is = (row_less p m v depth (inner_at p depth a) e.groups after _ parts.groups).reads }

  pub element_group : (k : ℕ) → element_read (Element.Group k) (entry_read p depth a m v e)
      ≡ group_read k (row_at p depth (many_groups p a) (groups_from p a) m v 0 after)
  unfolding element_read element_of group_read
  element_group k =
      rw (ok.reads.is, (row_less p m v depth (inner_at p depth a) e.groups after _ parts.groups).reads)
      (ap (group_of k) (sym parts.same))

  pub entry_datas : Done (datas_read p depth a m v e.groups after)
  unfolding ◌>>=◌
  entry_datas = record { value = (ok.reads.value.2, ok.reads.value.3); is = rw parts.groups parts.datas }

  pub element_data : (k : ℕ) → element_read (Element.Data k) (entry_read p depth a m v e)
      ≡ data_read k (datas_read p depth a m v e.groups after)
  unfolding element_read element_of data_read ◌>>=◌
  element_data k = rw (ok.reads.is, parts.groups, parts.datas) refl

  -- The block has so many elements of the kind.
  pub element_less : {x : Element} → has_element x (shape_at p a) (inner_at p depth a) ≡ true → {y : Element} → x ≡ y
      → number_of y < count_of p a y
  element_less has {y} e =
      ltb-true (number_of y) (count_of p a y) (sym (has_element_lem p depth a y ok.stands) ∙ rw e at has)
