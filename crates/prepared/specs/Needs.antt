-- What decides the need of a block at a version before the book's.
use Rattle.std.specs.Prelude.{◌≡◌, List, ℕ, ◌+◌, ◌-◌, ◌*◌, ◌≤◌, ◌<◌}
use Rattle.layout.specs.Book.{need as need_of, need_after}
use Rattle.layout.specs.BookRules.{parse_fields, word}
use Rattle.prepared.specs.Names.{lists_at}
use Rattle.prepared.specs.Positions.{many_fields, fields_from, shape_at}

-- The first r fields of the block at a decide its need at v, and the last of them is present.
pub record FieldsUpTo (p : List ℕ) (a v r : ℕ) : Type 0 where
  pub few : r ≤ many_fields p a
  pub last : 0 < r → word p (fields_from p a + 7 * (r - 1) + 5) ≤ v
  pub need : need_of v (shape_at p a) ≡ need_after v 0 (parse_fields (lists_at p) p r (fields_from p a))
