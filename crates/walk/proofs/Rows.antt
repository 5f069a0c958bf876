-- Groups in a row, of which some are left, at places of the prepared numbers.
use mathlib.Core.Path.{◌≡◌, refl}
use mathlib.Core.Bool.{Bool}
use mathlib.Core.List.{List}
use Prim.Native.Nat.{ℕ, ◌+◌, ◌-◌, ◌≤◌, ◌<◌}
use native.Mathlib.Omega.{arith}
use lib.ListN.{length}
use Rattle.layout.specs.Result.{◌>>=◌, done}
use Rattle.layout.specs.Book.{Shape, more}
use Rattle.layout.specs.BookRules.{word}
use Rattle.layout.specs.Values.{group, nil}
use Rattle.layout.specs.Message.{dimension_size, in_row, read_groups, skip_group}
use Rattle.layout.specs.declared.Answer.TheVariants.{Absent, Group}
use Rattle.prepared.specs.Positions.{groups_at, inner_at, is_big, is_counted, next_from, shape_at}
use Rattle.prepared.proofs.Open.{no_groups_at}
use Rattle.wire.proofs.Steps.{steps}
use Rattle.surplus.proofs.Rows.{row_end}
use Rattle.counts.specs.Groups.{open_at, open_by}
use Rattle.counts.specs.declared.Entries.{Entries}
use Rattle.counts.proofs.Groups.{group_good}
use Rattle.walk.specs.Walks.{Small, entries_at, row_at}
use Rattle.walk.proofs.Groups as Groups

module _ (p : List ℕ) (depth n a : ℕ) (m : List ℕ) (v surplus at : ℕ) where
  pub row_done : n ≤ 0 → row_at p depth n a m v surplus at
      ≡ (in_row surplus (skip_group (is_counted p) (is_big p) m depth) at >>= λ x. done (nil, x))
  unfolding read_groups
  row_done h = rw (no_groups_at p depth n a h) refl

  module _ (is : groups_at p depth n a ≡ more (word p a) (word p (a + 1)) (shape_at p a) (inner_at p (depth - 1) a)
      (groups_at p depth (n - 1) (next_from p a))) where
    pub row_absent : v < word p (a + 1) → row_at p depth n a m v surplus at
        ≡ (row_at p depth (n - 1) (next_from p a) m v surplus at >>= λ r. done (group Absent nil r.0, r.1))
    row_absent h = Groups.row_absent p m v depth surplus at _ _ _ _ _ _ is h

    pub row_present : word p (a + 1) ≤ v → row_at p depth n a m v surplus at
        ≡ (open_at p (depth - 1) a m v at >>= λ e. entries_at p (depth - 1) a m v e (at + dimension_size (is_counted p))
        >>= λ r. row_at p depth (n - 1) (next_from p a) m v surplus r.1
        >>= λ q. done (group (Group e.count) r.0 q.0, q.1))
    row_present h = Groups.row_present p m v depth surplus at _ _ _ _ _ _ is h

-- What a group that was opened is good for: the first part shows tactics the call.
pub opened_small : (counted : Bool) (version : ℕ) (big : Bool) (m : List ℕ) (v : ℕ) (s : Shape) (groups : List ℕ) (at : ℕ)
    → (open_by counted version big m v s groups at ≡ open_by counted version big m v s groups at)
    × ((e : Entries) → open_by counted version big m v s groups at ≡ done e
    → Small e × (at + dimension_size counted ≤ length m))
opened_small counted version big m v s groups at = (
  refl,
  λ e is. let good = group_good counted version big m v s groups at e is in (
    record {
      short = omega (arith, good.short);
      few = omega (arith, good.few);
      few_groups = omega (arith, good.few_groups);
      few_datas = omega (arith, good.few_datas);
    },
    good.fits,
  ),
)

pub ruleset rows = (row_done, row_absent, row_present, opened_small, row_end, steps)
