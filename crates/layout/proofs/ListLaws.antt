-- A list that has grown still has what it had, and an answer beside it is seen beside the older one as it would be seen
-- there at once.
use mathlib.Core.Path.{◌∙◌, ◌≡◌, refl, subst, sym}
use mathlib.Core.Bool.{Bool, false, false≢true, true}
use mathlib.Core.List.{List, [], ◌∷◌}
use Prim.Native.Nat.{◌/◌, ◌<◌, suc, zero, ℕ}
use native.Mathlib.Numerals.{unary_clauses}
use native.Mathlib.Omega.{arith}
use lib.Dec.{eqb, ltb}
use borrow.Author.Tests.{eqb-true, leb-true, ltb-true}
use Rattle.layout.specs.Result.{Each, ◌or◌, when◌then◌else◌}
use Rattle.layout.specs.Lists.{KeepsNames, Kind, Names, beside, enumeration, free, has, is_listed, is_one_of}
use Rattle.layout.specs.Lists.{missing, no_names, only_bits, set}
use Rattle.layout.specs.Book.{Field, with_names}
use Rattle.layout.specs.BookRules.{climbing, greatest}
use Rattle.layout.specs.Message.{array_at, read_field}
use Rattle.layout.specs.Demands.{Sound}
use Rattle.layout.proofs.Results.{and_both, and_left, and_right, each_way, either, or_right}
use Rattle.layout.specs.declared.Answer.{Answer}
use Rattle.layout.specs.declared.Answer.TheVariants.{Absent, Group, Null, Number, Octets, OutOfRange, Unlisted}

pub or_either : (a b : Bool) (c : Bool) → (a or b) ≡ true → (b ≡ true → c ≡ true) → (a or c) ≡ true
unfolding ◌or◌
or_either true b c h q = refl
or_either false b c h q = q h

-- What holds of each of these holds of x, which is one of them.
pub one_of : (P : ℕ → Type 0) (ns : List ℕ) → Each P ns → (x : ℕ) → is_one_of x ns ≡ true → P x
unfolding Each is_one_of
one_of P [] a x h = absurd (false≢true h)
one_of P (n ∷ ns) a x h =
    each_way (eqb x n) (λ e. subst P (sym (eqb-true x n e)) a.0) (λ e. one_of P ns a.1 x (or_right _ _ h e))

module _ (ns ns' : List ℕ) (more : Each (λ n. is_one_of n ns' ≡ true) ns) where
  only_more : (i w x : ℕ) → only_bits ns i w x ≡ true → only_bits ns' i w x ≡ true
  unfolding only_bits
  only_more i zero x h = refl
  only_more i (suc w) x h =
      and_both (or_either _ _ _ (and_left _ _ h) (one_of _ ns more i))
      (only_more (suc i) w (x / 2) (and_right _ _ h))

  listed_more : (k : Kind) (x : ℕ) → is_listed k ns x ≡ true → is_listed k ns' x ≡ true
  unfolding is_listed
  listed_more free x h = refl
  listed_more missing x h = h
  listed_more enumeration x h = one_of _ ns more x h
  listed_more set x h = only_more _ _ x h

pub has_more : (old new : Names) → KeepsNames old new → (x : ℕ) → has old x ≡ true → has new x ≡ true
has_more old new k x h = rw (← k.same_kind) (listed_more old.numbers new.numbers k.numbers old.kind x h)

-- A number that the newer list lacks, the older lacks too.
number_twice : (old new : Names) → KeepsNames old new → (x : ℕ)
    → beside old (beside new (Number x)) ≡ beside old (Number x)
unfolding beside when◌then◌else◌
number_twice old new k x = go (has new x) refl (has old x) refl
  where
    go : (b : Bool) → has new x ≡ b → (c : Bool) → has old x ≡ c
        → beside old (when b then Number x else Unlisted x) ≡ beside old (Number x)
    go true e c h = refl
    go false e true h = absurd (false≢true (sym e ∙ has_more old new k x h))
    go false e false h = rw h refl

pub beside_twice : (old new : Names) → KeepsNames old new → (a : Answer) → beside old (beside new a) ≡ beside old a
unfolding beside
beside_twice old new k (Number x) = number_twice old new k x
beside_twice old new k Null = refl
beside_twice old new k (Octets start len) = refl
beside_twice old new k Absent = refl
beside_twice old new k (Group entries) = refl
beside_twice old new k (OutOfRange x) = refl
beside_twice old new k (Unlisted x) = refl

-- Where there is no list, an answer stays as it is.
pub beside_none : (a : Answer) → beside no_names a ≡ a
unfolding beside is_listed when◌then◌else◌
beside_none (Number x) = refl
beside_none Null = refl
beside_none (Octets start len) = refl
beside_none Absent = refl
beside_none (Group entries) = refl
beside_none (OutOfRange x) = refl
beside_none (Unlisted x) = refl

-- So does one that is sound beside its list.
pub beside_sound : (l : Names) (a : Answer) → Sound (beside l a) → beside l a ≡ a
unfolding beside Sound when◌then◌else◌
beside_sound l (Number x) s = go (has l x) s
  where
    go : (b : Bool) → Sound (when b then Number x else Unlisted x) → (when b then Number x else Unlisted x) ≡ Number x
    go true s = refl
    go false s = absurd s
beside_sound l Null s = refl
beside_sound l (Octets start len) s = refl
beside_sound l Absent s = refl
beside_sound l (Group entries) s = refl
beside_sound l (OutOfRange x) s = refl
beside_sound l (Unlisted x) s = refl

-- What is listed stays a number, and nothing else is sound.
pub beside_listed : (l : Names) (x : ℕ) → has l x ≡ true → beside l (Number x) ≡ Number x
unfolding beside when◌then◌else◌
beside_listed l x h = rw h refl

pub sound_listed : (l : Names) (x : ℕ) → Sound (beside l (Number x)) → has l x ≡ true
unfolding beside Sound when◌then◌else◌
sound_listed l x s = go (has l x) s
  where
    go : (b : Bool) → Sound (when b then Number x else Unlisted x) → b ≡ true
    go true s = refl
    go false s = absurd s

-- ---- rule 5's test of a set says it of every bit

-- Of numbers that rise none is above the last.
pub greatest_bounds : (low k : ℕ) (ns : List ℕ) → climbing low ns ≡ true → ltb (greatest ns) k ≡ true
    → Each (λ n. n < k) ns
unfolding climbing Each
greatest_bounds low k [] c h = tt
greatest_bounds low k (n ∷ []) c h = (ltb-true n k h, tt)
greatest_bounds low k (n ∷ n' ∷ ns) c h =
    let next = and_right _ _ c in
    let rest = greatest_bounds (suc n) k (n' ∷ ns) next (simp unary_clauses (simp unary_clauses at h)) in
    (omega (arith, leb-true (suc n) n' (and_left _ _ next), rest.0), rest)

-- ---- fields of a message

module _ (l l' : Names) (twice : (a : Answer) → beside l (beside l' a) ≡ beside l a) where
  -- An array has no list.
  array_beside : (m : List ℕ) (start : ℕ) (f : Field)
      → array_at m start (with_names f l) ≡ beside l (array_at m start (with_names f l'))
  unfolding array_at beside
  array_beside m start f = either Same _ _ _ (either Same _ _ _ refl refl) refl
    where
      Same : Answer → Type 0
      Same a = a ≡ beside l a

  -- Whether the field is present, and whether it is an array.
  choice_beside : (b y : Bool) (x x' a : Answer) → x ≡ beside l x'
      → (when b then (when y then x else beside l a) else Absent)
      ≡ beside l (when b then (when y then x' else beside l' a) else Absent)
  unfolding beside when◌then◌else◌
  choice_beside true true x x' a e = e
  choice_beside true false x x' a e = sym (twice a)
  choice_beside false y x x' a e = refl

  -- What a field is with the names l is what it is with the names l', seen beside l, where l lacks what l' lacks.
  pub read_beside : (big : Bool) (m : List ℕ) (v at : ℕ) (f : Field)
      → read_field big m v at (with_names f l) ≡ beside l (read_field big m v at (with_names f l'))
  unfolding read_field
  read_beside big m v at f = choice_beside _ _ _ _ _ (array_beside m _ f)
