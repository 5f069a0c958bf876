-- The head, empty slots and the lists are stored, and then each template in turn.
use Rattle.prepare.proofs.Templates.{Laying}
use Rattle.prepare.proofs.put_book.Given as goal

abbrev pub invariant-loop-i : goal.invariant-loop-i
invariant-loop-i l =
    Laying l.book l.n l.initial.room l.room l.i l.at
