-- What follows the groups of the root, by the answers of its parts.
use mathlib.Core.Path.{◌≡◌}
use mathlib.Core.Bool.{Bool, false, true}
use mathlib.Core.List.{List}
use Prim.Native.Nat.{ℕ}
use native.Mathlib.Omega.{arith}
use lib.Dec.{eqb}
use lib.ListN.{length}
use Rattle.std.specs.Prelude.{Err, Ok}
use Rattle.layout.specs.Result.{◌>>=◌, must}
use Rattle.layout.specs.Operations.{Told, refusal, told}
use Rattle.layout.specs.Message.{read_datas}
use Rattle.layout.specs.declared.Reason.TheVariants.{OctetsLeftOver}
use Rattle.prepared.specs.Positions.{is_big, shape_at}
use Rattle.walk.specs.Walks.{datas_end, walked}
use Rattle.walk.specs.declared.Walked.{Walked}
use Rattle.places.proofs.Seeks.{and_then}
use Rattle.whole.specs.Wholes.{rest_at, rest_end}

-- At the message's end or not.
unfoldable pub ends : Bool → Walked → Told Walked
ends true w = Ok w
ends false w = Err (refusal OctetsLeftOver w.next)

pub rest_by : (p : List ℕ) (a : ℕ) (m : List ℕ) (v k at : ℕ)
    → walked rest_end (rest_at p a m v k at)
    ≡ and_then (walked (datas_end 0) (read_datas (is_big p) m v (shape_at p a).datas k at)) λ w. ends (eqb w.next (length m)) w
unfolding rest_at told must ends and_then ◌>>=◌
rest_by p a m v k at = grind arith
