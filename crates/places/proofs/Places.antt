-- Rows cut at places of the prepared numbers, and the steps of a path.
use mathlib.Core.Path.{◌∙◌, ◌≡◌, refl}
use mathlib.Core.List.{List, [], ◌∷◌}
use Prim.Native.Nat.{ℕ, zero, suc, ◌+◌, ◌-◌, ◌≤◌, ◌<◌}
use native.Mathlib.Omega.{arith}
use lib.ListN.{length}
use Rattle.layout.specs.Book.{more, none}
use Rattle.layout.specs.Reading.{steps_of}
use Rattle.layout.specs.BookRules.{word}
use Rattle.prepared.specs.Positions.{BlockAt, IsRow, Opened, many_groups, groups_at, groups_from, inner_at, next_from}
use Rattle.prepared.specs.Positions.{shape_at}
use Rattle.prepared.proofs.Open.{no_groups_at, open_row}
use Rattle.places.specs.Spots.{drop_groups, take_groups}
use Rattle.places.specs.Seeks.{Path, row_after, step_at, steps_from}
use Rattle.layout.proofs.Results.{one_less, some_left}

-- The first g of n groups in a row are a row, and so are the others.
pub record RowHalves (p : List ℕ) (depth n g a : ℕ) : Type 0 where
  pub first : IsRow p depth g a
  pub others : IsRow p depth (n - g) (row_after p g a)
  pub takes : take_groups g (groups_at p depth n a) ≡ groups_at p depth g a
  pub drops : drop_groups g (groups_at p depth n a) ≡ groups_at p depth (n - g) (row_after p g a)

no_row : (p : List ℕ) (depth a : ℕ) → IsRow p depth 0 a
unfolding IsRow
no_row p zero a = tt
no_row p (suc depth) a = tt

row_halves : (p : List ℕ) (depth n g a : ℕ) → g ≤ n → IsRow p depth n a → RowHalves p depth n g a
unfolding IsRow groups_at take_groups drop_groups row_after
row_halves p depth n zero a h row =
    let q : n - 0 ≡ n = omega arith in
    record {
      first = no_row p depth a;
      others = rw q row;
      takes = rw (no_groups_at p depth 0 a (omega arith)) refl;
      drops = rw q refl;
    }
row_halves p depth zero (suc g) a h row = absurd (omega arith)
row_halves p zero (suc n) (suc g) a h row = absurd row
row_halves p (suc depth) (suc n) (suc g) a h row =
    let q : suc n - suc g ≡ n - g = omega arith in
    let on = row_halves p (suc depth) n g (next_from p a) (omega (arith, h)) row.2 in
    record {
      first = (row.0, row.1, on.first);
      others = rw q on.others;
      takes = rw on.takes refl;
      drops = rw q on.drops;
    }

-- Group g of the block at a, which has one: the groups before it, and the first after them.
module _ (p : List ℕ) (depth a g : ℕ) (stands : BlockAt p depth a) (less : g < many_groups p a) where
  pub group_halves : RowHalves p depth (many_groups p a) g (groups_from p a)
  group_halves = row_halves p depth (many_groups p a) g (groups_from p a) (omega (arith, less)) stands.row

  pub first_groups : IsRow p depth g (groups_from p a)
  first_groups = group_halves.first

  pub opens : Opened p depth (many_groups p a - g) (row_after p g (groups_from p a))
  opens = open_row p depth (many_groups p a - g) _ (omega (arith, less)) group_halves.others

  pub group_is_lem : let x = row_after p g (groups_from p a) in
      drop_groups g (inner_at p depth a) ≡ more (word p x) (word p (x + 1)) (shape_at p x) (inner_at p (depth - 1) x)
      (groups_at p depth (many_groups p a - g - 1) (next_from p x))
  group_is_lem = group_halves.drops ∙ opens.tree

-- From the last group on there are none.
pub row_drops_all : (p : List ℕ) (depth n g a : ℕ) → n ≤ g → drop_groups g (groups_at p depth n a) ≡ none
unfolding groups_at drop_groups
row_drops_all p depth zero zero a h = no_groups_at p depth 0 a (omega arith)
row_drops_all p depth zero (suc g) a h = rw (no_groups_at p depth 0 a (omega arith)) refl
row_drops_all p depth (suc n) zero a h = absurd (omega arith)
row_drops_all p zero (suc n) (suc g) a h = refl
row_drops_all p (suc depth) (suc n) (suc g) a h = row_drops_all p (suc depth) n g (next_from p a) (omega (arith, h))

pub row_after_none : (p : List ℕ) (n a : ℕ) → n < 1 → row_after p n a ≡ a
unfolding row_after
row_after_none p n a h = let none : n ≡ 0 = omega arith in rw none refl

pub row_after_next : (p : List ℕ) (n a : ℕ) → 0 < n → row_after p n a ≡ row_after p (n - 1) (next_from p a)
unfolding row_after
row_after_next p n a h = rw (some_left h, one_less) refl

-- ---- steps

pub steps_done : (path : List ℕ) (i : ℕ) → length path ≤ i → steps_from path i ≡ []
unfolding steps_of
steps_done [] zero h = refl
steps_done [] (suc i) h = refl
steps_done (x ∷ l) zero h = absurd (omega (arith, h))
steps_done (x ∷ l) (suc i) h = steps_done l i (omega (arith, h))

pub steps_next : (path : List ℕ) (i : ℕ) → i + 2 ≤ length path
    → steps_from path i ≡ step_at path i ∷ steps_from path (i + 2)
unfolding steps_of
steps_next [] i h = absurd (omega (arith, h))
steps_next (g ∷ []) zero h = absurd (omega (arith, h))
steps_next (g ∷ []) (suc i) h = absurd (omega (arith, h))
steps_next (g ∷ e ∷ l) zero h = refl
steps_next (g ∷ e ∷ l) (suc i) h =
    let q : suc i + 2 ≡ suc (i + 2) = omega arith in
    let r : suc i + 1 ≡ suc (i + 1) = omega arith in
    rw (q, r) (steps_next (e ∷ l) i (omega (arith, h)))

-- Where a step is left, it is whole.
pub path_next : {path : List ℕ} {i : ℕ} → Path path i → i < length path → Path path (i + 2)
path_next q h = record { few = q.few; inside = omega (arith, q.even); even = omega (arith, q.even) }
