-- The block that steps lead to, and whether the template has the place.
use mathlib.Core.Path.{◌∙◌, ◌≡◌, refl}
use mathlib.Core.Bool.{Bool, false, true}
use mathlib.Core.List.{List, [], ◌∷◌}
use Prim.Native.Nat.{ℕ, zero, suc, ◌+◌, ◌-◌, ◌*◌, ◌%◌, ◌≤◌, ◌<◌}
use native.Mathlib.Omega.{arith}
use lib.Dec.{ltb}
use lib.ListN.{length}
use Rattle.std.specs.Prelude.{None, Option, Some}
use Rattle.layout.specs.Result.{when◌then◌else◌}
use Rattle.layout.specs.Book.{Groups, Shape, more, none}
use Rattle.layout.specs.BookRules.{word}
use Rattle.layout.specs.Reading.{group_has, has_element, has_place, steps_of, whole_steps}
use Rattle.layout.specs.declared.Element.{Element}
use Rattle.layout.specs.declared.Element.TheVariants.{Data as DataAt, Field, Group}
use Rattle.prepared.specs.Positions.{BlockAt, many_groups, groups_from, inner_at, shape_at}
use Rattle.layout.proofs.Accepted.{datas_length_lem}
use Rattle.prepared.proofs.Accepted.{fields_length}
use Rattle.prepared.proofs.Open.{length_row}
use Rattle.places.specs.Spots.{Block, drop_groups, first_block}
use Rattle.places.specs.Seeks.{row_after, steps_from}
use Rattle.places.specs.Elements.{block_after, block_for, count_of, number_of}
use Rattle.places.proofs.Places.{group_is_lem, opens, row_drops_all, steps_done, steps_next}

-- ---- the element

pub has_element_lem : (p : List ℕ) (depth a : ℕ) (x : Element) → BlockAt p depth a
    → has_element x (shape_at p a) (inner_at p depth a) ≡ ltb (number_of x) (count_of p a x)
unfolding has_element
has_element_lem p depth a (Field k) at = rw (fields_length _ p _ _) refl
has_element_lem p depth a (Group k) at = rw (length_row p depth _ _ at.row) refl
has_element_lem p depth a (DataAt k) at = rw (datas_length_lem p _ _) refl

-- ---- the group

-- Whether group g has it, is asked of those from it on.
pub has_dropped : (g : ℕ) (gs : Groups) (has : Shape → Groups → Bool)
    → group_has gs g has ≡ group_has (drop_groups g gs) 0 has
unfolding group_has drop_groups
has_dropped zero gs has = refl
has_dropped (suc g) none has = refl
has_dropped (suc g) (more i since s inner rest) has = has_dropped g rest has

pub has_none : (p : List ℕ) (depth a g : ℕ) (has : Shape → Groups → Bool) → many_groups p a ≤ g
    → group_has (inner_at p depth a) g has ≡ false
unfolding group_has
has_none p depth a g has h =
    has_dropped g (inner_at p depth a) has ∙ rw (row_drops_all p depth (many_groups p a) g (groups_from p a) h) refl

-- Group g of the block at a is the block after g groups.
module _ (p : List ℕ) (depth a g : ℕ) (stands : BlockAt p depth a) (less : g < many_groups p a) where
  abbrev next : ℕ
  next = row_after p g (groups_from p a)

  pub has_inside : (has : Shape → Groups → Bool)
      → group_has (inner_at p depth a) g has ≡ has (shape_at p next) (inner_at p (depth - 1) next)
  unfolding group_has
  has_inside has = has_dropped g (inner_at p depth a) has ∙ rw (group_is_lem p depth a g stands less) refl

  pub first_inside : (b : Block)
      → first_block b (drop_groups g (inner_at p depth a)) ≡ (shape_at p next, inner_at p (depth - 1) next)
  unfolding first_block
  first_inside b = rw (group_is_lem p depth a g stands less) refl

-- ---- the place

-- There is a step for every two numbers.
pub steps_many : (l : List ℕ) → 2 * length (steps_of l) + length l % 2 ≡ length l
unfolding steps_of
steps_many [] = refl
steps_many (g ∷ []) = refl
steps_many (g ∷ e ∷ l) = omega (arith, steps_many l)

pub steps_whole : (l : List ℕ) → length l % 2 ≡ 0 → whole_steps l ≡ true
unfolding whole_steps
steps_whole [] h = refl
steps_whole (g ∷ []) h = absurd (omega arith)
steps_whole (g ∷ e ∷ l) h = steps_whole l (omega arith)

pub steps_half : (l : List ℕ) → length l % 2 ≡ 1 → whole_steps l ≡ false
unfolding whole_steps
steps_half [] h = absurd (omega arith)
steps_half (g ∷ []) h = refl
steps_half (g ∷ e ∷ l) h = steps_half l (omega arith)

-- What is left of the steps, i of them leading to the block at a.
module _ (p : List ℕ) (a : ℕ) (path : List ℕ) (i : ℕ) (x : Element) (stands : BlockAt p (4 - i) a) where
  abbrev pub place_from : Option ℕ
  place_from = block_for p (4 - i) a (steps_from path (2 * i)) x

  pub place_ends : length path ≤ 2 * i → place_from ≡ (when ltb (number_of x) (count_of p a x) then Some a else None)
  unfolding has_place block_after
  place_ends h = rw (steps_done path (2 * i) h, has_element_lem p (4 - i) a x stands) refl

  module _ (some : 2 * i + 2 ≤ length path) where
    pub place_lacks : many_groups p a ≤ word path (2 * i) → place_from ≡ None
    unfolding has_place when◌then◌else◌
    place_lacks h =
        let has = has_place (steps_from path (2 * i + 2)) x in
        rw (steps_next path (2 * i) some, has_none p (4 - i) a (word path (2 * i)) has h) refl

    pub place_on : word path (2 * i) < many_groups p a
        → let next = row_after p (word path (2 * i)) (groups_from p a) in
        BlockAt p (4 - (i + 1)) next × (place_from ≡ block_for p (4 - (i + 1)) next (steps_from path (2 * (i + 1))) x)
    unfolding has_place block_after
    place_on h =
        let has = has_place (steps_from path (2 * i + 2)) x in
        let one : 4 - (i + 1) ≡ 4 - i - 1 = omega arith in
        let two : 2 * (i + 1) ≡ 2 * i + 2 = omega arith in
        rw (one, two, steps_next path (2 * i) some, has_inside p (4 - i) a (word path (2 * i)) stands h has)
        ((opens p (4 - i) a _ stands h).first, refl)
