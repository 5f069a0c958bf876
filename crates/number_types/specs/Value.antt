-- A type as it is kept in the code, the value of the number of type t at `at`, and the code of a type with its order.
use Rattle.std.specs.Prelude.{Bool, List, ℕ, ◌%◌, ◌*◌, ◌+◌, ◌/◌, eqb}
use Rattle.layout.specs.Result.{when◌then◌else◌}
use Rattle.layout.specs.Octets.{number_at}
use Rattle.layout.specs.Types.{TypeRow, type_at, value_of}
use Rattle.number_types.specs.declared.NumberType.{NumberType}

abbrev pub kept : TypeRow → NumberType
kept k =
    record { width = k.width; signed = k.signed; least = k.least; greatest = k.greatest; null = k.null }

abbrev pub value_at : Bool → List ℕ → ℕ → ℕ → ℕ
value_at big s at t = value_of (type_at t) (number_at big (type_at t).width s at)

-- An order as the book's head has it: "0 little or 1 big".
abbrev pub order_of : Bool → ℕ
order_of big = when big then 1 else 0

-- Twice the type, and the order.
abbrev pub coded : Bool → ℕ → ℕ
coded big t = 2 * t + order_of big

abbrev pub type_in : ℕ → ℕ
type_in c = c / 2

abbrev pub is_big_in : ℕ → Bool
is_big_in c = eqb (c % 2) 1
