-- What is left of the rows ends as all of them do. The sum of a row's first word and its words is low.
use mathlib.Core.Path.{◌≡◌}
use Prim.Native.Nat.{◌≤◌}
use Rattle.layout.specs.Octets.{words_of}
use Rattle.layout.specs.BookRules.{contents_end, parse_contents}
use Rattle.book.proofs.Rows.{rows_left}
use Rattle.book.proofs.contents_end.Given as goal

abbrev pub invariant-loop-i : goal.invariant-loop-i
invariant-loop-i l =
    let b = words_of l.book in
    (l.at ≤ 262140)
    × (contents_end 0 l.start (parse_contents b l.n l.from) ≡ contents_end l.low l.at (rows_left b l.from l.n l.i))
