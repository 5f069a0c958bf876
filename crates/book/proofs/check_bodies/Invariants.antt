-- What is left of the bodies is ruled, with the faults so far, as all of them are; then the lists answer.
use mathlib.Core.Path.{◌≡◌}
use Rattle.layout.specs.Octets.{words_of}
use Rattle.book.specs.Answers.{bodies_of}
use Rattle.book.proofs.Bodies.{bodies_from}
use Rattle.book.proofs.check_bodies.Given as goal

abbrev pub invariant-loop-t : goal.invariant-loop-t
invariant-loop-t l =
    let b = words_of l.book in
    bodies_of b ≡ bodies_from b l.t l.five l.six l.seven
