-- What a field is, as the code's tests find it.
use Rattle.std.proofs.Common.{◌≡◌, ℕ, zero, suc, ◌+◌, ◌-◌, ◌<◌, ◌≤◌, Bool, true, false, eqb, leb, List, [], ◌∷◌, length, take, drop, sym, refl, ap, ◌∙◌, mul-le-mul_right, mul-one, arith, le-ltb, lt-ltb, ne_eqb, eqb-true, le-leb, leb-true}
use borrow.Author.Tests.{lt-leb}
use Rattle.layout.specs.Result.{Each, ◌and◌, when◌then◌else◌}
use Rattle.layout.specs.Octets.{number_at, text_length}
use Rattle.layout.specs.Lists.{beside, no_names}
use Rattle.layout.specs.Types.{classify, type_at, value_of}
use Rattle.layout.specs.Book.{Field, end, is_optional, need_after}
use Rattle.layout.specs.BookRules.{fields_good, length_good, parse_fields, word}
use Rattle.layout.specs.Message.{array_at, read_field}
use Rattle.layout.specs.declared.Answer.TheVariants.{Absent, Null, Octets}
use Rattle.layout.specs.declared.Answer.{Answer}
use Rattle.layout.proofs.ListLaws.{beside_none, read_beside}
use Rattle.layout.proofs.Fields.{FieldGood, field_good_lem}
use Rattle.layout.proofs.Results.{and_left, each_way, either, or_right}
use Rattle.layout.proofs.TypeLaws.{width_listed}
use Rattle.number_types.proofs.Types.{each_width}
use Rattle.prepared.specs.Names.{lists_at, names_at}
use Rattle.prepared.specs.Positions.{IsField, field_at}
use Rattle.fields.specs.Readable.{Fits, plain}

-- A field that is present lies in the message.
module _ (m : List ℕ) (v at : ℕ) (f : Field) (h : f.since ≤ v) (p : Fits m v at f) where
  pub array_inside : at + f.offset + f.length ≤ length m
  array_inside =
      let some : 1 ≤ (type_at f.type).width =
      each_width (λ w. 1 ≤ w) (omega arith) (omega arith) (omega arith) (omega arith) _ (width_listed f.type) in
      omega (arith, mul-le-mul_right f.length some, p.inside h)

  pub number_inside : f.length ≤ 1 → at + f.offset + (type_at f.type).width ≤ length m
  number_inside l =
      let one : f.length ≡ 1 = omega (arith, p.some) in
      omega (arith, rw (one, mul-one) at (p.inside h))

module _ (big : Bool) (m : List ℕ) (v at : ℕ) (f : Field) where
  pub field_absent : v < f.since → read_field big m v at f ≡ Absent
  unfolding read_field when◌then◌else◌
  field_absent h = rw (lt-leb f.since v h) refl

  module _ (h : f.since ≤ v) where
    pub field_array : 1 < f.length → read_field big m v at (plain f) ≡ array_at m (at + f.offset) f
    unfolding read_field array_at when◌then◌else◌
    field_array l = rw (le-leb f.since v h, lt-ltb 1 f.length l) refl

    pub field_number : f.length ≤ 1 → read_field big m v at (plain f) ≡ classify (type_at f.type) (is_optional f)
        (value_of (type_at f.type) (number_at big (type_at f.type).width m (at + f.offset)))
    unfolding read_field when◌then◌else◌
    field_number l = rw (le-leb f.since v h, le-ltb 1 f.length l) (beside_none _)

-- ---- arrays

module _ (m : List ℕ) (start : ℕ) (f : Field) where
  pub array_octets : (f.type ≡ 0 → ⊥) → array_at m start f ≡ Octets start f.length
  unfolding array_at when◌then◌else◌
  array_octets other = rw (ne_eqb f.type 0 other) refl

  module _ (char : f.type ≡ 0) (n : ℕ) (long : n ≡ text_length (take f.length (drop start m))) where
    pub text_some : 0 < n → array_at m start f ≡ Octets start n
    unfolding array_at when◌then◌else◌ ◌and◌
    text_some some = rw (char, ← long, ne_eqb n 0 (λ e. omega (arith, some, e))) (either_way (is_optional f))
      where
        either_way : (b : Bool) → (when b and false then Null else Octets start n) ≡ Octets start n
        either_way true = refl
        either_way false = refl

    module _ (nothing : n ≤ 0) where
      none : n ≡ 0
      none = omega arith

      pub text_null : f.presence ≡ 1 → array_at m start f ≡ Null
      unfolding array_at when◌then◌else◌ ◌and◌
      text_null optional = rw (char, ← long, none, optional) refl

      pub text_empty : (f.presence ≡ 1 → ⊥) → array_at m start f ≡ Octets start 0
      unfolding array_at when◌then◌else◌ ◌and◌
      text_empty required = rw (char, ← long, none, ne_eqb f.presence 1 required) refl

-- ---- the fields of a good block

some_length : (f : Field) → length_good f ≡ true → 1 ≤ f.length
some_length f g =
    each_way (eqb f.length 1) (λ e. omega (arith, eqb-true f.length 1 e))
    (λ e. omega (arith, leb-true 2 f.length (and_left _ _ (or_right _ _ g e))))

-- Of good fields every one that is present ends within the need.
need_least : (v l e least : ℕ) (fs : List Field) → fields_good l e fs ≡ true → least ≤ e → least ≤ need_after v least fs
unfolding need_after
need_least v l e least [] g h = omega arith
need_least v l e least (f ∷ fs) g h =
    let k = field_good_lem l e f fs g in
    let low : least ≤ end f = omega (arith, k.placed) in
    either (λ (x : ℕ). least ≤ need_after v x fs) (leb f.since v) (end f) least
    (omega (arith, low, need_least v l (end f) (end f) fs k.rest (omega arith)))
    (need_least v l (end f) least fs k.rest low)

pub fields_fit_lem : (m : List ℕ) (v at size l e least : ℕ) (fs : List Field) → fields_good l e fs ≡ true → least ≤ e
    → need_after v least fs ≤ size → at + size ≤ length m → Each (Fits m v at) fs
unfolding need_after Each
fields_fit_lem m v at size l e least [] g h n i = tt
fields_fit_lem m v at size l e least (f ∷ fs) g h n i = (
  record { some = some_length f good.length; inside = within },
  fields_fit_lem m v at size l (end f) _ fs good.rest low n i,
)
  where
    good : FieldGood l e f fs
    good = field_good_lem l e f fs g

    low : (when leb f.since v then end f else least) ≤ end f
    low = either (λ x. x ≤ end f) (leb f.since v) (end f) least (omega arith) (omega (arith, good.placed))

    within : f.since ≤ v → at + end f ≤ length m
    within here =
        let here-is : need_after v (end f) fs ≤ size = unfold when◌then◌else◌ in rw (le-leb f.since v here) at n in
        omega (arith, need_least v l (end f) (end f) fs good.rest (omega arith), here-is)

pub fields_each : (P : Field → Type 0) (p : List ℕ) (n f : ℕ) → 0 < n → Each P (parse_fields (lists_at p) p n f)
    → P (field_at p f) × Each P (parse_fields (lists_at p) p (n - 1) (f + 7))
unfolding parse_fields Each
fields_each P p zero f h e = absurd (omega arith)
fields_each P p (suc n) f h e = let q : suc n - 1 ≡ n = omega arith in rw q e

-- What a field is without its list, seen beside the list that its table leads to, is what it is.
module _ (big : Bool) (p : List ℕ) (f t : ℕ) (m : List ℕ) (v at : ℕ) (a : Answer) (field : IsField p f t)
    (is : a ≡ read_field big m v at (plain (field_at p f))) where
  pub field_beside : (r : Answer) → r ≡ beside (names_at p (word p (t + 5))) a → r ≡ read_field big m v at (field_at p f)
  field_beside r told =
      told ∙ rw (is, field.derived.names.names) (sym (read_beside (field_at p f).names no_names
      (λ x. ap (beside (field_at p f).names) (beside_none x)) big m v at (field_at p f)))

  pub field_bare : (field_at p f).names ≡ no_names → a ≡ read_field big m v at (field_at p f)
  field_bare e = field_beside a (rw (field.derived.names.names, e) (sym (beside_none a)))
