-- Some of the data are written, and those that are left are to come; the next record has a number of the machine's.
use Prim.Native.Nat.{◌+◌, ◌-◌, ◌<◌, ◌^◌}
use Rattle.prepared.specs.Positions.{many_datas}
use Rattle.prints.proofs.Going.{Going}
use Rattle.writer.specs.Parts.{datas_part}
use Rattle.writer.proofs.write_datas.Given as goal

abbrev pub invariant-loop-data : goal.invariant-loop-data
invariant-loop-data l =
    let part = datas_part l.big l.l.numbers.now l.l.pool.now in
    let n = many_datas l.l.book.now l.a in
    (l.c.record + l.data < 2 ^ 64)
    × Going (part n l.c.record) (part (n - l.data) (l.c.record + l.data)) l.c.at l.initial.room l.at l.room
