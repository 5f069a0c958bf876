-- The entry is there or not, by both tests.
use native.Mathlib.Omega.{arith}
use borrow.Author.Tests.{le-ltb, lt-ltb}
use Rattle.std.proofs.lemmas.Grind.{common_steps}
use Rattle.layout.specs.Result.{when◌then◌else◌}
use Rattle.places.proofs.plain_row.Goals as goal

pub returns : goal.returns
unfolding when◌then◌else◌
returns c = grind (arith, common_steps, lt-ltb, le-ltb)
