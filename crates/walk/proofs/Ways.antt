-- Whatever is walked: how far it leads, and a loop on its way.
use mathlib.Core.Path.{◌≡◌}
use mathlib.Core.List.{List}
use Prim.Native.Nat.{ℕ, ◌+◌, ◌*◌, ◌≤◌}
use lib.ListN.{length}
use Rattle.layout.specs.Result.{◌>>=◌, must, when◌then◌else◌}
use Rattle.layout.specs.Operations.{Told, told}
use Rattle.layout.specs.Values.{measure}
use Rattle.layout.specs.Message.{read_block}
use Rattle.wire.specs.Walks.{Inside}
use Rattle.walk.specs.Walks.{Bounded, rate}
use Rattle.walk.specs.declared.Walked.{Walked}

-- What says `unfolding walks` is evaluated to what is told.
unfoldable pub walks : Unit {0}
unfolding told must ◌>>=◌ when◌then◌else◌ measure read_block Bounded Inside
walks = tt

-- Of what `all` comes to, from `start` on, `seen` records were passed up to `at`; what is left, at most `more` records
-- but for those that octets are used for, comes to `rest`.
pub record Way (m : List ℕ) (start own : ℕ) (all rest : Told Walked) (seen more at : ℕ) : Type 0 where
  pub whole : all ≡ rest
  pub after : start ≤ at
  pub inside : at ≤ length m
  pub few : seen + more + rate * start ≤ own + rate * at
