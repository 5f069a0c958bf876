-- What is left of the fields answers, with the rules so far, as all of them do.
use mathlib.Core.Path.{◌≡◌}
use Rattle.layout.specs.Octets.{words_of}
use Rattle.layout.specs.BookRules.{lists_of, parse_fields}
use Rattle.book.specs.Answers.{all_rules, fields_rules}
use Rattle.book.proofs.RuleLaws.{fields_left}
use Rattle.book.proofs.check_fields.Given as goal

abbrev pub invariant-loop-i : goal.invariant-loop-i
invariant-loop-i l =
    let ls = lists_of (words_of l.book) in
    let b = words_of l.body in
    fields_rules l.version l.fn.sinces.low l.fn.sinces.high l.l 0 (parse_fields ls b l.n l.from)
    ≡ all_rules l.rules (fields_rules l.version l.next.low l.next.high l.l l.end (fields_left ls b l.from l.n l.i))
