-- Those seen, and the present ones of what is left, are as many as are present in all.
use mathlib.Core.Path.{◌≡◌}
use Prim.Native.Nat.{◌*◌, ◌+◌, ◌-◌, ◌≤◌}
use Rattle.layout.specs.Book.{data_sinces, present}
use Rattle.layout.specs.BookRules.{parse_datas}
use Rattle.prepared.specs.Positions.{shape_at}
use Rattle.counts.proofs.older_datas.Given as goal

abbrev pub invariant-loop-i : goal.invariant-loop-i
invariant-loop-i l =
    (l.seen ≤ l.i)
    × (present l.v (data_sinces (shape_at l.p l.a).datas)
    ≡ l.seen + present l.v (data_sinces (parse_datas l.p (l.i-end - l.i) (l.from + 2 * l.i))))
