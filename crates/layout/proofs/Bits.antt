-- "5 also for .. a bit beyond the width": rule 5 looks at the greatest number of a set, and an accepted book's numbers
-- rise, so that no field of such a book has a bit beyond its width.
use mathlib.Core.Path.{◌≡◌, refl}
use mathlib.Core.Bool.{true}
use mathlib.Core.List.{List, [], ◌∷◌}
use Prim.Native.Nat.{◌*◌, ◌<◌, suc, zero, ℕ}
use lib.Dec.{eqb}
use Rattle.layout.specs.Result.{Each}
use Rattle.layout.specs.Types.{type_at}
use Rattle.layout.specs.Lists.{NameList, Names, find_names, set}
use Rattle.layout.specs.Book.{Book, Field, Groups, Template, end, more, none}
use Rattle.layout.specs.BookRules.{climbing, fields_good, groups_good, kind_good, list_good, names_good}
use Rattle.layout.proofs.Accepted.{Accepted, EachField, EachInside, Named}
use Rattle.layout.proofs.Fields.{field_good_lem}
use Rattle.layout.proofs.ListLaws.{greatest_bounds}
use Rattle.layout.proofs.Results.{and_left, and_right, either}

abbrev pub BitsWithin : Field → Type 0
BitsWithin f = f.names.kind ≡ set → Each (λ n. n < 8 * (type_at f.type).width) f.names.numbers

found_climbing : (w : ℕ) (ls : List NameList) → Each (λ l. list_good l ≡ true) ls
    → climbing 0 (find_names w ls).numbers ≡ true
unfolding find_names Each climbing
found_climbing zero ls a = refl
found_climbing (suc id) [] a = refl
found_climbing (suc id) (l ∷ ls) a =
    either (λ (x : Names). climbing 0 x.numbers ≡ true) (eqb l.id id) _ _
    (and_right _ _ (and_right _ _ (and_right _ _ a.0))) (found_climbing (suc id) ls a.1)

module _ (ls : List NameList) (good : Each (λ l. list_good l ≡ true) ls) where
  field_bits : (f : Field) → Named ls f → names_good f ≡ true → BitsWithin f
  unfolding kind_good
  field_bits f is g k =
      greatest_bounds 0 _ f.names.numbers (rw is (found_climbing f.list ls good))
      (and_right _ _ (and_right _ _ (rw k at g)))

  fields_bits : (l e : ℕ) (fs : List Field) → fields_good l e fs ≡ true → Each (Named ls) fs → Each BitsWithin fs
  unfolding Each
  fields_bits l e [] g a = tt
  fields_bits l e (f ∷ fs) g a =
      let k = field_good_lem l e f fs g in
      (field_bits f a.0 k.names, fields_bits l (end f) fs k.rest a.1)

  groups_bits : (gs : Groups) → groups_good gs ≡ true → EachInside (Named ls) gs → EachInside BitsWithin gs
  unfolding groups_good EachInside
  groups_bits none g a = tt
  groups_bits (more i since s inner rest) g a =
      let g₁ = and_right _ _ g in (
        fields_bits s.length 0 s.fields (and_right _ _ (and_left _ _ g)) a.0,
        groups_bits inner (and_left _ _ g₁) a.1,
        groups_bits rest (and_right _ _ g₁) a.2,
      )

pub bits_within : (b : Book) (t : Template) → Accepted b t → EachField BitsWithin t.shape t.groups
bits_within b t a = (
  fields_bits b.lists a.lists t.shape.length 0 t.shape.fields (and_right _ _ (and_left _ _ a.layout))
      a.names.0,
  groups_bits b.lists a.lists t.groups (and_right _ _ a.layout) a.names.1,
)
