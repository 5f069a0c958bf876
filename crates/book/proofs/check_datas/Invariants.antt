-- What is left of the data answers as all of them do.
use mathlib.Core.Path.{◌≡◌}
use Rattle.layout.specs.Octets.{words_of}
use Rattle.layout.specs.Book.{data_sinces}
use Rattle.layout.specs.BookRules.{parse_datas, rising}
use Rattle.book.proofs.RuleLaws.{datas_left}
use Rattle.book.proofs.check_datas.Given as goal

abbrev pub invariant-loop-i : goal.invariant-loop-i
invariant-loop-i l =
    let b = words_of l.body in
    let high = l.sinces.high in
    rising high l.sinces.low (data_sinces (parse_datas b l.n l.from)) ≡ rising high l.least (datas_left b l.from l.n l.i)
