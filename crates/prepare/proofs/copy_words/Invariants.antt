-- So many words are stored.
use Rattle.std.proofs.Common.{◌≡◌}
use lib.Seq.{sets}
use Rattle.prepare.specs.Positions.{words_from}
use Rattle.prepare.proofs.copy_words.Given as goal

abbrev pub invariant-loop-i : goal.invariant-loop-i
invariant-loop-i l =
    l.room ≡ sets l.initial.room l.start (words_from l.body l.i l.from)
