-- None of those that were passed is NUL.
use Rattle.texts.specs.Least.{Clear}
use Rattle.texts.proofs.text_length.Given as goal

abbrev pub invariant-loop-j : goal.invariant-loop-j
invariant-loop-j l = Clear l.s l.start l.j
