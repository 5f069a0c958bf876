-- A group that the book knows, up to its entries.
use Rattle.std.specs.Prelude.{◌≡◌, Bool, true, List, ℕ, ◌+◌, ◌≤◌, Err, Ok, leb, ltb}
use Rattle.layout.specs.Result.{Result, ◌>>=◌, ◌and◌, done, must, refused}
use Rattle.layout.specs.Octets.{null16, number16}
use Rattle.layout.specs.Book.{Shape, data_sinces, group_sinces, need}
use Rattle.layout.specs.Message.{count_good, read_dimension, surplus}
use Rattle.prepared.specs.Positions.{inner_at, is_big, is_counted, many_datas, many_groups, shape_at, version_at}
use Rattle.counts.specs.declared.Entries.{Entries}
use Rattle.counts.specs.declared.Surplus.{Surplus}
use Rattle.layout.specs.declared.Reason.{Reason}
use Rattle.layout.specs.declared.Reason.TheVariants.{DimensionNull, GroupBlockShort, GroupCountsWrong}

-- ---- the counts of a dimension

-- 17 and 21, by the two counts at `at` of a block s with groups of these sinces, whose dimension is at `place`.
unfoldable pub counts_by : ℕ → Bool → List ℕ → ℕ → Shape → List ℕ → ℕ → ℕ → Result Surplus
counts_by version big m v s groups place at = do
  let datas = data_sinces s.datas
  let g = number16 big m at
  let d = number16 big m (at + 2)
  _ ← must (ltb g null16 and ltb d null16) DimensionNull place
  _ ← must (count_good true version v groups g and count_good true version v datas d) GroupCountsWrong place
  done (record { groups = surplus v groups g; datas = surplus v datas d })

-- They are the book's own for the block at a, at its version or a later one.
pub record HasOwn (p : List ℕ) (a : ℕ) (m : List ℕ) (v at : ℕ) : Type 0 where
  pub late : version_at p ≤ v
  pub groups : number16 (is_big p) m (at + 4) ≡ many_groups p a
  pub datas : number16 (is_big p) m (at + 4 + 2) ≡ many_datas p a

-- What is surplus, or why the counts are refused.
unfoldable pub coded : Result Surplus → Rattle.std.specs.Prelude.Result Surplus Reason
coded (done s) = Ok s
coded (refused r p) = Err r

-- Nothing is surplus.
abbrev pub none_over : Surplus
none_over = record { groups = 0; datas = 0 }

-- ---- the group

-- 16, 17, 18 and 21, by the dimension at `at`.
unfoldable pub open_by : Bool → ℕ → Bool → List ℕ → ℕ → Shape → List ℕ → ℕ → Result Entries
open_by counted version big m v s groups at = do
  let datas = data_sinces s.datas
  d ← read_dimension counted big m at
  _ ← must (leb (need v s) d.length) GroupBlockShort at
  _ ← must (count_good counted version v groups d.groups and count_good counted version v datas d.datas) GroupCountsWrong at
  let over : Surplus = record { groups = surplus v groups d.groups; datas = surplus v datas d.datas }
  done (record { length = d.length; count = d.entries; surplus = over })

-- The group whose block is at a of the prepared numbers p.
module _ (p : List ℕ) (depth a : ℕ) (m : List ℕ) (v : ℕ) where
  abbrev pub counts_at : ℕ → Result Surplus
  counts_at at = counts_by (version_at p) (is_big p) m v (shape_at p a) (group_sinces (inner_at p depth a)) at (at + 4)

  abbrev pub open_at : ℕ → Result Entries
  open_at at =
      open_by (is_counted p) (version_at p) (is_big p) m v (shape_at p a) (group_sinces (inner_at p depth a)) at

  -- It was accepted.
  pub record IsOpen (at : ℕ) : Type 0 where
    pub entries : Entries
    pub is : open_at at ≡ done entries
