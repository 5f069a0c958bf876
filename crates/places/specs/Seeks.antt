-- What the walk along a path comes to, at places of the prepared numbers p.
use Rattle.std.specs.Prelude.{◌≡◌, Bool, List, ℕ, zero, suc, ◌+◌, ◌*◌, ◌%◌, ◌≤◌, ltb, drop, length, Option, None, Some, Ok, Err}
use Rattle.layout.specs.Result.{Result, when◌then◌else◌}
use Rattle.layout.specs.Message.{Entry}
use Rattle.layout.specs.Reading.{steps_of}
use Rattle.layout.specs.BookRules.{word}
use Rattle.layout.specs.Operations.{Told, told}
use Rattle.layout.specs.Values.{Step, Values}
use Rattle.prepared.specs.Positions.{many_groups, groups_at, groups_from, inner_at, next_from, shape_at}
use Rattle.walk.specs.declared.Walked.{Walked}
use Rattle.counts.specs.declared.Entries.{Entries}
use Rattle.walk.specs.Walks.{entries_at, entry_by, row_at}
use Rattle.places.specs.Spots.{entries_spot, first_spot, spot_in, spot_of, step_spot}
use Rattle.places.specs.declared.Row.{Row}
use Rattle.places.specs.declared.Spot.{Spot}

-- The part ends where the definition says, and the entry that is looked for is at s.
unfoldable pub rowed : Result (Values × ℕ) → Option Spot → Told Row
rowed r s = told (λ x. record { next = x.1; spot = s }) r

-- What was walked, with the spot s.
abbrev pub found_at : Walked → Option Spot → Row
found_at w s = record { next = w.next; spot = s }

-- It does not lead past the end.
unfoldable pub Within : List ℕ → Told Row → Type 0
Within m (Ok r) = r.next ≤ length m
Within m (Err z) = Unit {0}

-- ---- paths: steps as they are lent, at most four of them

-- Steps are left from number i on, or none.
pub record Path (path : List ℕ) (i : ℕ) : Type 0 where
  pub few : length path ≤ 8
  pub inside : i ≤ length path
  pub even : i % 2 ≡ length path % 2

-- The step at number i.
abbrev pub step_at : List ℕ → ℕ → Step
step_at path i = record { group = word path i; entry = word path (i + 1) }

abbrev pub steps_from : List ℕ → ℕ → List Step
steps_from path i = steps_of (drop i path)

-- ---- positions

-- Where the group after n groups of a row stands.
unfoldable pub row_after : List ℕ → ℕ → ℕ → ℕ
row_after p zero a = a
row_after p (suc n) a = row_after p n (next_from p a)

-- ---- the walk

module _ (p : List ℕ) (depth a : ℕ) (m : List ℕ) (v : ℕ) (path : List ℕ) (i : ℕ) where
  -- The row of the block at a and surplus groups, by the step at i and those after it.
  unfoldable pub row_sought : ℕ → ℕ → Told Row
  row_sought surplus at =
      rowed (row_at p depth (many_groups p a) (groups_from p a) m v surplus at)
      (step_spot p m v (step_at path i) (spot_in p m v (steps_from path (i + 2))) (inner_at p depth a) depth at)

  -- n groups in a row at a and surplus ones, of which the step at i leads to the first.
  unfoldable pub group_sought : ℕ → ℕ → ℕ → Told Row
  group_sought n surplus at =
      rowed (row_at p depth n a m v surplus at)
      (first_spot p m v (word path (i + 1)) (spot_in p m v (steps_from path (i + 2))) (groups_at p depth n a) depth at)

  -- The entries of the block at a that a dimension says, the step at i leading to one of them.
  unfoldable pub entries_sought : Entries → ℕ → Told Row
  entries_sought e at =
      rowed (entries_at p depth a m v e at)
      (entries_spot (entry_by p m v (shape_at p a) (inner_at p depth a) depth e.surplus.groups e.surplus.datas e.length)
      (λ x. spot_in p m v (steps_from path (i + 2)) (inner_at p depth a) depth (spot_of e.surplus.groups e.length x)) None
      e.count (word path (i + 1)) at)

  -- The row of the entry of the block at a whose own spot is e, by the steps from i on.
  unfoldable pub inner_sought : Spot → Told Row
  inner_sought e =
      rowed (row_at p depth (many_groups p a) (groups_from p a) m v e.groups (e.start + e.length))
      (spot_in p m v (steps_from path i) (inner_at p depth a) depth e)

-- The octet after an entry.
abbrev pub after_entry : Entry → ℕ
after_entry (fs, gs, ds, x) = x

-- The entry of the block at a that stands at `at`, of those that a dimension says.
abbrev pub entry_at : List ℕ → ℕ → ℕ → List ℕ → ℕ → Entries → ℕ → Result Entry
entry_at p depth a m v e =
    entry_by p m v (shape_at p a) (inner_at p depth a) depth e.surplus.groups e.surplus.datas e.length

-- k entries of l octets that nothing follows, from `start` on: entry e, if it is the last step that leads to it.
abbrev pub plain_spot : ℕ → ℕ → ℕ → ℕ → Bool → Option Spot
plain_spot l k start e last =
    when ltb e k then (when last then Some (spot_of 0 l (start + l * e)) else None) else None
