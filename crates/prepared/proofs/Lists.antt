-- Where the numbers of a book's lists stand, the lists are read back, and the place that was worked out for a field
-- leads to its names: both go by the first list with the number that the field's last word leads to.
use mathlib.Core.Path.{◌≡◌, ap, refl}
use mathlib.Core.Bool.{Bool, false, false≢true, true}
use mathlib.Core.List.{List, [], ◌∷◌}
use Prim.Native.Nat.{ℕ, zero, suc, ◌+◌, ◌<◌}
use native.Mathlib.Omega.{arith}
use lib.Dec.{eqb}
use lib.ListN.{drop, length, take}
use borrow.Author.Tests.{ne_eqb}
use Rattle.layout.specs.Result.{Each, when◌then◌else◌}
use Rattle.layout.specs.Lists.{NameList, find_names, names_of}
use Rattle.layout.specs.Book.{Field}
use Rattle.layout.specs.BookRules.{climbing, kind_good, list_good, word}
use Rattle.layout.proofs.Results.{and_right}
use Rattle.layout.proofs.Stands.{Stands, split_to}
use Rattle.prepared.specs.Numbers.{list_numbers, list_size, lists_from, lists_numbers, mask_of, place_of}
use Rattle.prepared.specs.Names.{HasNames, IsList, list_at, lists_at, lists_in, names_at}
use Rattle.prepared.proofs.Prepared.{LeadsToNames, first_at, number_at}

module _ (p : List ℕ) where
  -- A list stands at x, and is read back.
  record IsRead (x : ℕ) (l : NameList) : Type 0 where
    is : list_at p x ≡ l
    long : word p (x + 3) ≡ length l.numbers
    list : climbing 0 l.numbers ≡ true → IsList p x

  list_stands : (l : NameList) (x to : ℕ) → Stands p x (list_numbers l) to → IsRead x l
  list_stands l x to s =
      let long = number_at s 3 (omega arith) in
      let o = split_to (l.id ∷ l.kind ∷ mask_of l.numbers ∷ length l.numbers ∷ []) l.numbers (x + 4) refl s in
      let numbers : take (word p (x + 3)) (drop (x + 4) p) ≡ l.numbers = rw long o.1.whole in
      record {
        is = rw (first_at s, number_at s 1 (omega arith), numbers) refl;
        long = long;
        list = λ rises.
            record {
              fits = omega (arith, o.1.ends, o.1.fits);
              rises = rw numbers rises;
              mask = rw numbers (number_at s 2 (omega arith));
            };
      }

  -- The first list, and those after it.
  list_first : (l : NameList) (ls : List NameList) (x to : ℕ) → Stands p x (lists_numbers (l ∷ ls)) to
      → IsRead x l × Stands p (x + list_size l) (lists_numbers ls) to
  unfolding lists_numbers
  list_first l ls x to s =
      let o = split_to (list_numbers l) (lists_numbers ls) (x + list_size l) (omega arith) s in
      (list_stands l x _ o.0, o.1)

  lists_stand : (ls : List NameList) (x to : ℕ) → Stands p x (lists_numbers ls) to → lists_in p (length ls) x ≡ ls
  unfolding lists_in
  lists_stand [] x to s = refl
  lists_stand (l ∷ ls) x to s =
      let o = list_first l ls x to s in
      let q : x + 4 + length l.numbers ≡ x + list_size l = omega arith in
      rw (o.0.is, o.0.long, q, lists_stand ls _ to o.1) refl

  first_leads : (l : NameList) (x : ℕ) → 0 < x → list_good l ≡ true → IsRead x l → HasNames p x (names_of l)
  unfolding names_at when◌then◌else◌
  first_leads l x after good r =
      record {
        list = λ h. r.list (and_right _ _ (and_right _ _ (and_right _ _ good)));
        names = rw (ne_eqb x 0 (λ e. omega arith)) (ap (λ (z : NameList). names_of z) r.is);
      }

  none_leads : (ls : List NameList) (x : ℕ) → HasNames p (place_of 0 ls x) (find_names 0 ls)
  unfolding find_names names_at place_of when◌then◌else◌
  none_leads ls x = record { list = λ h. absurd (omega arith); names = refl }

  -- A field whose word is w keeps rule 5 with the names that its list has.
  names_stand : (ls : List NameList) (x to : ℕ) → 0 < x → Each (λ l. list_good l ≡ true) ls
      → Stands p x (lists_numbers ls) to → (w : ℕ) (f : Field) → kind_good (find_names w ls).kind f ≡ true
      → HasNames p (place_of w ls x) (find_names w ls)
  unfolding Each find_names kind_good place_of
  names_stand ls x to after good s zero f g = none_leads ls x
  names_stand [] x to after good s (suc id) f g = absurd (false≢true g)
  names_stand (l ∷ ls) x to after good s (suc id) f g =
      let o = list_first l ls x to s in
      go (eqb l.id id) (first_leads l x after good.0 o.0)
      (names_stand ls (x + list_size l) to (omega arith) good.1 o.1 (suc id) f) g
    where
      go : (b : Bool) → HasNames p x (names_of l)
          → (kind_good (find_names (suc id) ls).kind f ≡ true
          → HasNames p (place_of (suc id) ls (x + list_size l)) (find_names (suc id) ls))
          → kind_good (when b then names_of l else find_names (suc id) ls).kind f ≡ true
          → HasNames p (when b then x else place_of (suc id) ls (x + list_size l))
          (when b then names_of l else find_names (suc id) ls)
      go true first rest g = unfold when◌then◌else◌ in first
      go false first rest g = unfold when◌then◌else◌ in rest g

  pub lists_back : (n : ℕ) (ls : List NameList) (to : ℕ) → word p 2 ≡ n → word p 3 ≡ length ls
      → Stands p (lists_from n) (lists_numbers ls) to → lists_at p ≡ ls
  unfolding lists_at
  lists_back n ls to many long s = rw (many, long) (lists_stand ls (lists_from n) to s)

  pub leads_to_names : (from to : ℕ) → 0 < from → Each (λ l. list_good l ≡ true) (lists_at p)
      → Stands p from (lists_numbers (lists_at p)) to → LeadsToNames p from
  leads_to_names from to after good s f named g =
      rw named (names_stand (lists_at p) from to after good s f.list _ (rw named at g))
