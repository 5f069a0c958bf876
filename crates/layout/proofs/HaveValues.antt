-- Which fields of an accepted book there is something to write for: all but required ones whose list has values and none
-- in range.
use mathlib.Core.Path.{◌∙◌, ◌≡◌, refl, sym}
use mathlib.Core.Bool.{Bool, false, false≢true, true}
use mathlib.Core.List.{List, [], ◌∷◌}
use Prim.Native.Nat.{◌<◌, ◌^◌, suc, zero, ℕ}
use native.Mathlib.Omega.{arith}
use lib.Dec.{eqb, leb}
use borrow.Author.Tests.{eq-eqb, le-leb, leb-true}
use Rattle.layout.specs.Result.{Each, ◌and◌, ◌or◌, when◌then◌else◌}
use Rattle.layout.specs.Types.{TypeRow, in_range, int, type_at, uint}
use Rattle.layout.specs.Lists.{Kind, enumeration, free, has, is_listed, is_one_of, missing, only_bits, set}
use Rattle.layout.specs.Book.{Field, end, is_array, is_optional}
use Rattle.layout.specs.BookRules.{fields_good, kind_good}
use Rattle.layout.specs.Demands.{HasValue, NoneInRange}
use Rattle.layout.specs.Writing.{takes}
use Rattle.layout.proofs.Fields.{field_good_lem}
use Rattle.layout.proofs.ListLaws.{one_of}
use Rattle.layout.proofs.Results.{and_left, and_right, each_way}
use Rattle.layout.proofs.TypeLaws.{each_type, inside_not_null}

-- A number of 64 bits that a type has.
abbrev InType : TypeRow → Type 0
InType k = (x : ℕ) × (x < 2 ^ 64) × (in_range k x ≡ true)

some_number : (t : ℕ) → InType (type_at t)
unfolding in_range when◌then◌else◌ ◌and◌ ◌or◌
some_number t =
    each_type InType (32, omega arith, refl)
    (λ w h. (0, omega arith, rw (le-leb 0 (int w).greatest (omega arith)) refl))
    (λ w h. (0, omega arith, le-leb 0 (uint w).greatest (omega arith))) t

-- 0 sets no bit.
no_bits : (ns : List ℕ) (i w : ℕ) → only_bits ns i w 0 ≡ true
unfolding only_bits ◌or◌ ◌and◌
no_bits ns i zero = refl
no_bits ns i (suc w) = no_bits ns (suc i) w

zero_in_range : (t : ℕ) → is_one_of t (2 ∷ 4 ∷ 6 ∷ 8 ∷ []) ≡ true → in_range (type_at t) 0 ≡ true
unfolding Each in_range type_at when◌then◌else◌ ◌and◌ ◌or◌
zero_in_range t h = one_of (λ t. in_range (type_at t) 0 ≡ true) _ (refl, (refl, (refl, (refl, tt)))) t h

taken : (f : Field) (x : ℕ) → in_range (type_at f.type) x ≡ true → has f.names x ≡ true → takes f x ≡ true
unfolding ◌and◌
taken f x o h = simp (o, inside_not_null f.type x o, h)

or_second : (a b : Bool) → b ≡ true → (a or b) ≡ true
unfolding ◌or◌
or_second true b h = refl
or_second false b h = h

-- Of these one is in range, or none is.
in_range_or_none : {P : Type 0} (k : TypeRow) (ns : List ℕ)
    → ((x : ℕ) → is_one_of x ns ≡ true → in_range k x ≡ true → P)
    → (Each (λ n. in_range k n ≡ false) ns → P)
    → P
unfolding Each is_one_of
in_range_or_none k [] one all = all tt
in_range_or_none k (n ∷ ns) one all =
    each_way (in_range k n) (λ e. one n (unfold ◌or◌ in rw (eq-eqb n n refl) refl) e)
    (λ e. in_range_or_none k ns (λ x h. one x (or_second (eqb x n) (is_one_of x ns) h)) (λ a. all (e, a)))

-- A number of a type that takes values is of 64 bits.
abbrev Narrow : TypeRow → Type 0
Narrow k = (k.signed ≡ false) × (k.greatest < 2 ^ 64)

narrow : (t : ℕ) → is_one_of t (0 ∷ 2 ∷ 4 ∷ []) ≡ true → Narrow (type_at t)
unfolding Each type_at when◌then◌else◌ ◌and◌
narrow t h = one_of (λ t. Narrow (type_at t)) _ ((refl, omega arith), ((refl, omega arith), ((refl, omega arith), tt))) t h

narrow_small : (k : TypeRow) → Narrow k → (x : ℕ) → in_range k x ≡ true → x < 2 ^ 64
unfolding in_range when◌then◌else◌
narrow_small k n x o =
    let r : (leb k.least x and leb x k.greatest) ≡ true = rw n.0 at o in
    omega (arith, leb-true x k.greatest (and_right _ _ r), n.1)

abbrev LacksByList : Field → Type 0
LacksByList f = (NoneInRange f → ⊥) → HasValue f

field_value : (f : Field) (k : Kind) → f.names.kind ≡ k → kind_good k f ≡ true → LacksByList f
unfolding kind_good is_listed
field_value f free e g some h =
    let x = some_number f.type in
    (x.0, x.1, taken f x.0 x.2 (rw e refl))
field_value f missing e g some h = absurd (false≢true g)
field_value f enumeration e g some h =
    in_range_or_none (type_at f.type) f.names.numbers
    (λ x one o. (x, narrow_small _ (narrow f.type (and_right _ _ g)) x o, taken f x o (rw e one)))
    (λ a. absurd (some (e, a)))
field_value f set e g some h =
    let o = zero_in_range f.type (and_left _ _ (and_right _ _ g)) in
    (0, omega arith, taken f 0 o (rw e (no_bits f.names.numbers 0 _)))

pub fields_have_values : (l e : ℕ) (fs : List Field) → fields_good l e fs ≡ true → Each LacksByList fs
unfolding Each
fields_have_values l e [] g = tt
fields_have_values l e (f ∷ fs) g =
    let k = field_good_lem l e f fs g in
    (field_value f f.names.kind refl k.names, fields_have_values l (end f) fs k.rest)

-- Such a field lacks it.
pub none_in_range : (f : Field) → (is_array f or is_optional f) ≡ false → NoneInRange f → HasValue f → ⊥
unfolding is_listed
none_in_range f required a h =
    let x = h required in
    let listed : is_listed f.names.kind f.names.numbers x.0 ≡ true = and_right _ _ (and_right _ _ x.2) in
    let outside = one_of (λ n. in_range (type_at f.type) n ≡ false) f.names.numbers a.1 x.0
    (rw a.0 at listed) in
    false≢true (sym outside ∙ and_left _ _ x.2)
