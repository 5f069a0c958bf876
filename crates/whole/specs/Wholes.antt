-- The whole message by prepared numbers p.
use Rattle.std.specs.Prelude.{List, [], ◌∷◌, map, ℕ, ◌+◌, ◌*◌, ◌≤◌, eqb, leb, length, Option, Some, None, IfSome, Ok, Err}
use Rattle.layout.specs.Result.{Result, done, must, ◌>>=◌}
use Rattle.layout.specs.Operations.{Told}
use Rattle.layout.specs.Message.{block_length, header_size, read_datas, read_field, version_of}
use Rattle.layout.specs.Reading.{steps_of}
use Rattle.layout.specs.Values.{Values, entry, measure, nil}
use Rattle.layout.specs.declared.Answer.{Answer}
use Rattle.prepared.specs.Positions.{many_groups, groups_from, inner_at, is_big, shape_at}
use Rattle.walk.specs.Walks.{rate, row_at}
use Rattle.places.specs.Spots.{spot_in}
use Rattle.places.specs.declared.Spot.{Spot}
use Rattle.messages.specs.Openings.{open_at}
use Rattle.whole.specs.declared.Entered.{Entered}
use Rattle.whole.specs.declared.Root.{Root}
use Rattle.layout.specs.declared.Reason.TheVariants.{OctetsLeftOver, PastTheEnd}

-- ---- the root block

-- Its l octets are there, and then its groups, g surplus ones with them.
unfoldable pub root_at : List ℕ → ℕ → List ℕ → ℕ → ℕ → ℕ → Result (Values × ℕ)
root_at p a m v l g = do
  _ ← must (leb (header_size + l) (length m)) PastTheEnd header_size
  row_at p 4 (many_groups p a) (groups_from p a) m v g (header_size + l)

-- The records of a row, which are counted where no path is to be followed.
unfoldable pub records_in : List ℕ → Values → Option ℕ
records_in [] r = Some (measure r)
records_in (g ∷ path) r = None

-- The root block's own spot, and that of the entry that the path leads to.
abbrev pub root_spot : ℕ → ℕ → Spot
root_spot l g = record { start = header_size; length = l; groups = g }

abbrev pub spot_at : List ℕ → ℕ → List ℕ → ℕ → Spot → List ℕ → Option Spot
spot_at p a m v root path = spot_in p m v (steps_of path) (inner_at p 4 a) 4 root

abbrev pub rooted : List ℕ → Option Spot → Values × ℕ → Root
rooted path s r = record { next = r.1; records = records_in path r.0; spot = s }

-- More records than the groups of any message have.
abbrev pub most : ℕ
most = 16 + rate * 65535

-- It does not lead past the end, nor count more than that.
unfoldable pub Ends : List ℕ → Told Root → Type 0
Ends m (Ok r) = (r.next ≤ length m) × IfSome r.records (λ k. k ≤ most)
Ends m (Err z) = Unit {0}

-- What follows the groups of the root block at a: its data, k surplus data, and the message's end.
unfoldable pub rest_at : List ℕ → ℕ → List ℕ → ℕ → ℕ → ℕ → Result (List Answer × ℕ)
rest_at p a m v k at = do
  (ds, y) ← read_datas (is_big p) m v (shape_at p a).datas k at
  _ ← must (eqb y (length m)) OctetsLeftOver y
  done (ds, y)

abbrev pub rest_end : List Answer × ℕ → ℕ × ℕ
rest_end (ds, y) = (y, length ds)

-- ---- the message

-- Where the template's block stands, how many groups are surplus, and what the root's groups and data are.
unfoldable pub whole_at : List ℕ → List ℕ → Result (ℕ × ℕ × Values × List Answer)
whole_at p m = do
  (a, g, d) ← open_at p m
  (gs, x) ← root_at p a m (version_of (is_big p) m) (block_length (is_big p) m) g
  (ds, y) ← rest_at p a m (version_of (is_big p) m) d x
  done (a, g, gs, ds)

abbrev pub entered : List ℕ → List ℕ → List ℕ → ℕ × ℕ × Values × List Answer → Entered
entered p m path (a, g, gs, ds) =
    let v = version_of (is_big p) m in
    let s = spot_at p a m v (root_spot (block_length (is_big p) m) g) path in
    record { block = a; version = v; records = records_in path gs; spot = s }

-- The records of its groups are not too many.
unfoldable pub Few : Told Entered → Type 0
Few (Ok e) = IfSome e.records (λ k. k ≤ most)
Few (Err z) = Unit {0}

-- The message's tree.
abbrev pub tree_at : List ℕ → List ℕ → ℕ × ℕ × Values × List Answer → Values
tree_at p m (a, g, gs, ds) =
    entry (map (read_field (is_big p) m (version_of (is_big p) m) header_size) (shape_at p a).fields) gs ds nil
