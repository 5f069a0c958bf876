-- A row is its first group, and the others.
use mathlib.Core.Path.{◌≡◌, ◌∙◌, refl}
use mathlib.Core.List.{List}
use Prim.Native.Nat.{ℕ, ◌+◌, ◌-◌, ◌≤◌, ◌<◌, suc, zero}
use native.Mathlib.Omega.{arith}
use borrow.Author.Tests.{le-leb, lt-leb}
use lib.Dec.{leb}
use Rattle.layout.specs.Result.{Result, ◌>>=◌, done, when◌then◌else◌}
use Rattle.layout.specs.Book.{Groups, Shape, group_sinces, more}
use Rattle.layout.specs.Values.{Values, group, nil}
use Rattle.layout.specs.Message.{dimension_size, inside, read_entries, read_group, read_groups}
use Rattle.layout.specs.declared.Answer.{Answer}
use Rattle.layout.specs.declared.Answer.TheVariants.{Absent, Group}
use Rattle.layout.proofs.Results.{bind_assoc, bind_done}
use Rattle.prepared.specs.Positions.{is_big, is_counted, version_at}
use Rattle.counts.specs.Groups.{open_by}
use Rattle.counts.specs.declared.Entries.{Entries}
use Rattle.counts.proofs.Groups.{group_read_lem}
use Rattle.walk.specs.Walks.{entry_by, groups_by}

inside_less : (depth : ℕ) → inside depth ≡ depth - 1
inside_less zero = omega arith
inside_less (suc depth) = omega arith

-- s is its block with the groups `inner`, `depth` more levels being left for it.
module _ (p m : List ℕ) (v : ℕ) (s : Shape) (inner : Groups) (depth at since : ℕ) where
  abbrev pub group_is : Result (Answer × Values × ℕ)
  group_is =
      when leb since v then read_group (is_counted p) (version_at p) (is_big p) m v s (group_sinces inner)
      (groups_by p m v inner (depth - 1)) at else done (Absent, nil, at)

  -- The entries of one that is opened.
  abbrev pub entries_in : Entries → Result (Values × ℕ)
  entries_in e =
      read_entries e.count (entry_by p m v s inner (depth - 1) e.surplus.groups e.surplus.datas e.length)
      (at + dimension_size (is_counted p))

pub row_step : (p m : List ℕ) (v depth n at : ℕ) (gs : Groups) (id since : ℕ) (s : Shape) (inner rest : Groups)
    → gs ≡ more id since s inner rest → groups_by p m v gs depth n at
    ≡ (group_is p m v s inner depth at since >>= λ g. groups_by p m v rest depth n g.2
    >>= λ r. done (group g.0 g.1 r.0, r.1))
unfolding read_groups
row_step p m v depth n at gs id since s inner rest is = rw (is, ← (inside_less depth)) refl

module _ (p m : List ℕ) (v depth n at : ℕ) (gs : Groups) (id since : ℕ) (s : Shape) (inner rest : Groups)
    (is : gs ≡ more id since s inner rest) where
  pub row_absent : v < since → groups_by p m v gs depth n at
      ≡ (groups_by p m v rest depth n at >>= λ r. done (group Absent nil r.0, r.1))
  unfolding when◌then◌else◌ ◌>>=◌
  row_absent h = row_step p m v depth n at gs id since s inner rest is ∙ rw (lt-leb since v h) refl

  pub row_present : since ≤ v → groups_by p m v gs depth n at
      ≡ (open_by (is_counted p) (version_at p) (is_big p) m v s (group_sinces inner) at
      >>= λ e. entries_in p m v s inner depth at since e >>= λ r. groups_by p m v rest depth n r.1
      >>= λ q. done (group (Group e.count) r.0 q.0, q.1))
  unfolding when◌then◌else◌
  row_present h =
      row_step p m v depth n at gs id since s inner rest is
      ∙ rw (
        le-leb since v h,
        group_read_lem (is_counted p) (version_at p) (is_big p) m v s (group_sinces inner) at
            (groups_by p m v inner (depth - 1)),
      ) (simp (bind_assoc, bind_done) refl)
