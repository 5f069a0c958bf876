-- What is left of the data answers as all of them do, the octets seen being counted.
use Rattle.std.proofs.Common.{◌≡◌, ◌≤◌}
use Rattle.judges.specs.Judges.{limit}
use Rattle.judges.proofs.Judging.{datas_told}
use Rattle.judges.proofs.judge_datas.Given as goal

abbrev pub invariant-loop : goal.invariant-loop
invariant-loop l =
    (l.seen ≤ limit)
    × (datas_told l.l.numbers.now l.l.pool.now l.l.book.now l.a 0 0 l.start
    ≡ datas_told l.l.numbers.now l.l.pool.now l.l.book.now l.a l.counter l.seen l.i)
