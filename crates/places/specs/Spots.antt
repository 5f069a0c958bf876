-- Where the entry stands that steps lead to, if there is one: a spot is where it starts, how many octets its block has on
-- the wire and how many surplus groups follow its own.
use Rattle.std.specs.Prelude.{List, [], ◌∷◌, ℕ, zero, suc, ◌+◌, ◌-◌, leb, Option, None, Some}
use Rattle.layout.specs.Result.{Result, done, refused, when◌then◌else◌}
use Rattle.layout.specs.Book.{Groups, Shape, group_sinces, more, none}
use Rattle.layout.specs.Message.{Entry, dimension_size}
use Rattle.layout.specs.Values.{Step, Values}
use Rattle.prepared.specs.Positions.{is_big, is_counted, version_at}
use Rattle.counts.specs.Groups.{open_by}
use Rattle.counts.specs.declared.Entries.{Entries}
use Rattle.walk.specs.Walks.{entry_by, groups_by}
use Rattle.places.specs.declared.Spot.{Spot}

-- An entry of l octets with g surplus groups that starts at `at`.
abbrev pub spot_of : ℕ → ℕ → ℕ → Spot
spot_of g l at = record { start = at; length = l; groups = g }

-- ---- the tree of a block's groups

-- The first g groups of a row, and those after them.
unfoldable pub take_groups : ℕ → Groups → Groups
take_groups zero gs = none
take_groups (suc g) none = none
take_groups (suc g) (more i since s inner rest) = more i since s inner (take_groups g rest)

unfoldable pub drop_groups : ℕ → Groups → Groups
drop_groups zero gs = gs
drop_groups (suc g) none = none
drop_groups (suc g) (more i since s inner rest) = drop_groups g rest

-- A block with its groups.
abbrev pub Block : Type 0
Block = Shape × Groups

-- The block of the first group of a row, or b.
unfoldable pub first_block : Block → Groups → Block
first_block b none = b
first_block b (more i since s inner rest) = (s, inner)

-- The block that steps lead to, as far as there are groups.
unfoldable pub block_in : List Step → Block → Block
block_in [] b = b
block_in (s ∷ ps) b = block_in ps (first_block b (drop_groups s.group b.1))

-- ---- spots

-- Where a row or an entry ends that is not refused.
unfoldable pub end_of_row : Result (Values × ℕ) → ℕ
end_of_row (done r) = r.1
end_of_row (refused n p) = 0

unfoldable pub end_of_entry : Result Entry → ℕ
end_of_entry (done e) = e.3
end_of_entry (refused n p) = 0

-- Entry e of n entries that f reads, the first of them at `at`, has the spot that `inside` gives for its start; where there
-- is none, z.
unfoldable pub entries_spot : (ℕ → Result Entry) → (ℕ → Option Spot) → Option Spot → ℕ → ℕ → ℕ → Option Spot
entries_spot f inside z zero e at = z
entries_spot f inside z (suc n) zero at = inside at
entries_spot f inside z (suc n) (suc e) at = entries_spot f inside z n e (end_of_entry (f at))

-- By the prepared numbers p.
module _ (p m : List ℕ) (v : ℕ) where
  -- Entry e of a group with this block, whose entries start at `at`, `depth` more levels being left in them; `inside`
  -- gives a spot in an entry by the entry's own.
  unfoldable pub opened_spot : ℕ → (Spot → Option Spot) → Shape → Groups → ℕ → ℕ → Result Entries → Option Spot
  opened_spot e inside s inner depth at (done k) =
      entries_spot (entry_by p m v s inner depth k.surplus.groups k.surplus.datas k.length)
      (λ x. inside (spot_of k.surplus.groups k.length x)) None k.count e at
  opened_spot e inside s inner depth at (refused r q) = None

  -- Entry e of the first group of a row, `depth` more levels being left.
  unfoldable pub first_spot : ℕ → (Groups → ℕ → Spot → Option Spot) → Groups → ℕ → ℕ → Option Spot
  first_spot e inside none depth at = None
  first_spot e inside (more i since s inner rest) depth at =
      when leb since v then opened_spot e (inside inner (depth - 1)) s inner (depth - 1) (at + dimension_size (is_counted p))
      (open_by (is_counted p) (version_at p) (is_big p) m v s (group_sinces inner) at) else None

  -- The entry that a step leads to in a row at `at`, and what is inside of it.
  abbrev pub step_spot : Step → (Groups → ℕ → Spot → Option Spot) → Groups → ℕ → ℕ → Option Spot
  step_spot s inside gs depth at =
      first_spot s.entry inside (drop_groups s.group gs) depth
      (end_of_row (groups_by p m v (take_groups s.group gs) depth 0 at))

  -- From an entry with these groups, whose own spot is e.
  unfoldable pub spot_in : List Step → Groups → ℕ → Spot → Option Spot
  spot_in [] gs depth e = Some e
  spot_in (s ∷ ps) gs depth e = step_spot s (spot_in ps) gs depth (e.start + e.length)
