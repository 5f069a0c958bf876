-- A number is tested as the law of its field says.
use native.Mathlib.Omega.{arith}
use Rattle.judges.proofs.Judging.{fits_law}
use Rattle.judges.proofs.Steps.{steps}
use Rattle.judges.proofs.number_fits.Goals as goal

pub returns-then-value-x : goal.returns-then-value-x
returns-then-value-x c =
    grind (arith, steps, fits_law c.args.l.now.numbers.now c.args.i c.requires.0)

pub returns-then-not-listed : goal.returns-then-not-listed
returns-then-not-listed c =
    grind (arith, steps, fits_law c.args.l.now.numbers.now c.args.i c.requires.0)

pub returns-then-list-eq0 : goal.returns-then-list-eq0
returns-then-list-eq0 c =
    grind (arith, steps, fits_law c.args.l.now.numbers.now c.args.i c.requires.0)

pub returns-else-list-eq0 : goal.returns-else-list-eq0
returns-else-list-eq0 c =
    grind (arith, steps, fits_law c.args.l.now.numbers.now c.args.i c.requires.0)
