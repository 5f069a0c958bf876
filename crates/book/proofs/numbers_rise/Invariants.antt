-- What is left of the numbers answers as all of them do.
use mathlib.Core.Path.{◌≡◌}
use Prim.Native.Nat.{◌+◌}
use lib.ListN.{drop, take}
use Rattle.layout.specs.Octets.{words_of}
use Rattle.layout.specs.BookRules.{climbing}
use Rattle.book.proofs.NameLists.{numbers_left}
use Rattle.book.proofs.numbers_rise.Given as goal

abbrev pub invariant-loop-w : goal.invariant-loop-w
invariant-loop-w l =
    let b = words_of l.book in
    climbing 0 (take l.n (drop l.from b)) ≡ climbing l.low (numbers_left b (l.from + l.n) l.w)
