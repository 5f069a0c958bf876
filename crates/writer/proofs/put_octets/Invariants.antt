-- The octets that are left are to come.
use mathlib.Core.Path.{◌≡◌}
use lib.ListN.{drop, take}
use lib.Seq.{sets}
use Rattle.writer.proofs.put_octets.Given as goal

abbrev pub invariant-loop-i : goal.invariant-loop-i
invariant-loop-i l =
    let e = take l.len (drop l.start l.pool) in
    sets l.initial.room 0 e ≡ sets l.room l.i (drop l.i e)
