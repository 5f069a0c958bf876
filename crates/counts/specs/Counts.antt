-- How many elements of a block a message has more than are present.
use Rattle.std.specs.Prelude.{true, List, ℕ, ◌-◌, eqb, leb, Option, None, Some}
use Rattle.layout.specs.Result.{when◌then◌else◌}
use Rattle.layout.specs.Book.{present}
use Rattle.layout.specs.Message.{count_good}

-- Of the elements with these sinces n are counted.
unfoldable pub left_over : ℕ → ℕ → List ℕ → ℕ → Option ℕ
left_over version v ss n = when count_good true version v ss n then Some (n - present v ss) else None

-- The same, `here` of them being present.
unfoldable pub left_over_of : ℕ → ℕ → ℕ → ℕ → Option ℕ
left_over_of version v n here = when (when leb v version then eqb n here else leb here n) then Some (n - here) else None
