-- When a field can be read in a block: if it is present, its octets are in the message.
use Rattle.std.specs.Prelude.{ℕ, ◌+◌, ◌≤◌, List, length}
use Rattle.layout.specs.Types.{classify, type_at}
use Rattle.layout.specs.Lists.{no_names}
use Rattle.layout.specs.Book.{Field, end, is_optional, with_names}
use Rattle.layout.specs.declared.Answer.{Answer}
use Rattle.prepared.specs.Positions.{IsField, field_at}

pub record Fits (m : List ℕ) (v at : ℕ) (f : Field) : Type 0 where
  pub some : 1 ≤ f.length
  pub inside : f.since ≤ v → at + end f ≤ length m

-- The field at place x of the prepared numbers p, whose table is at t.
pub record Readable (p : List ℕ) (x t : ℕ) (m : List ℕ) (v at : ℕ) : Type 0 where
  pub field : IsField p x t
  pub fits : Fits m v at (field_at p x)

-- A field without its list.
abbrev pub plain : Field → Field
plain f = with_names f no_names

-- What the value x is to the field at place f of the prepared numbers p.
abbrev pub class_of : List ℕ → ℕ → ℕ → Answer
class_of p f x = classify (type_at (field_at p f).type) (is_optional (field_at p f)) x
