-- What is left of the row answers, after the rules so far, as the whole row does. The measure of a call is the depth
-- left.
use mathlib.Core.Path.{◌≡◌}
use Prim.Native.Nat.{◌-◌, ◌≤◌, ◌/◌}
use lib.ListN.{length}
use Rattle.layout.specs.Octets.{words_of}
use Rattle.layout.specs.BookRules.{lists_of, parse_groups}
use Rattle.book.specs.Answers.{row_of}
use Rattle.book.specs.Rows.{counted_in}
use Rattle.book.proofs.Groups.{after}
use Rattle.book.proofs.+check_groups.Given as goal

abbrev pub decreases-check_groups : goal.decreases-check_groups
decreases-check_groups l = l.depth

abbrev pub invariant-loop : goal.invariant-loop
invariant-loop l =
    let groups = parse_groups (lists_of (words_of l.book)) (words_of l.body) l.depth in
    let row = row_of (counted_in l.book) l.version in
    (l.next ≤ length l.body / 2)
    × (row l.fn.sinces.low l.fn.sinces.high (groups l.n l.from)
    ≡ after l.rules (row l.low l.fn.sinces.high (groups (l.n - l.counter) l.next)))
