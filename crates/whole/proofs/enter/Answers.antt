-- What was opened is walked.
use mathlib.Core.Path.{refl}
use native.Mathlib.Omega.{arith}
use Rattle.whole.specs.Wholes.{Ends}
use Rattle.whole.proofs.Entries.{lends}
use Rattle.whole.proofs.enter.Goals as goal

pub walk_root-requires : goal.walk_root-requires
walk_root-requires c =
    let l = lends _ _ c.requires.0 _ c.in_ok-opened.ensures in
    (l.block, l.lent, refl, l.short, l.few, c.requires.1)

pub walk_rest-requires : goal.walk_rest-requires
unfolding Ends
walk_rest-requires c =
    let l = lends _ _ c.requires.0 _ c.in_ok-opened.ensures in
    (l.block.block, omega (arith, l.few_datas), record { short = l.lent.short; inside = c.in_ok-walked.ensures.ends.0 })
