-- The numbers of a surplus group's dimension, and octets that are passed at once.
use Rattle.std.specs.Prelude.{List, ℕ, ◌+◌, ◌<◌, ◌≤◌, Err, Ok, leb, length}
use Rattle.layout.specs.Octets.{null16}
use Rattle.layout.specs.Operations.{Told}
use Rattle.layout.specs.Result.{Result, ◌>>=◌, done, must}
use Rattle.layout.specs.Message as Message
use Rattle.surplus.specs.declared.Sizes.{Sizes}
use Rattle.layout.specs.declared.Reason.TheVariants.{PastTheEnd}

-- The numbers of a dimension in the code, and in the definition.

abbrev pub sizes_of : Message.Dimension → Sizes
sizes_of d = record { length = d.length; entries = d.entries; groups = d.groups; datas = d.datas }

abbrev pub dimension_of : Sizes → Message.Dimension
dimension_of s = record { length = s.length; entries = s.entries; groups = s.groups; datas = s.datas }

-- Where skipping ends.
abbrev pub skip_end : ℕ → ℕ
skip_end x = x

-- n octets from `at` on, or 16 at `place`.
abbrev pub passed : List ℕ → ℕ → ℕ → ℕ → Result ℕ
passed m n place at = must (leb (at + n) (length m)) PastTheEnd place >>= λ _. done (at + n)

-- A dimension that is read has its octets in the message, and no number that is 65535.
unfoldable pub Whole : ℕ → ℕ → Told Sizes → Type 0
Whole len end (Ok s) =
    (end ≤ len) × (s.length < null16) × (s.entries < null16) × (s.groups < null16) × (s.datas < null16)
Whole len end (Err z) = Unit {0}
