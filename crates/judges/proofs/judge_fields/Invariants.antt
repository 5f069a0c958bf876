-- What is left of the fields answers as all of them do.
use Rattle.std.proofs.Common.{◌≡◌, ◌+◌, ◌*◌, ◌≤◌}
use Rattle.prepared.specs.Positions.{fields_from, many_fields, table_from}
use Rattle.judges.proofs.Judging.{fields_told}
use Rattle.judges.proofs.judge_fields.Given as goal

abbrev pub invariant-loop : goal.invariant-loop
invariant-loop l =
    let p = l.l.book.now in
    let told = fields_told l.l.numbers.now l.l.pool.now p l.a in
    record {
      few : l.counter ≤ many_fields p l.a;
      field : l.f + 7 * l.counter ≡ fields_from p l.a + 7 * many_fields p l.a;
      table : l.t + 6 * l.counter ≡ table_from p l.a + 6 * many_fields p l.a;
      rest : told (many_fields p l.a) (fields_from p l.a) l.start ≡ told l.counter l.f l.i;
    }
