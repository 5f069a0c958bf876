-- What is left of the data leads where all of them do.
use mathlib.Core.Path.{◌≡◌}
use Prim.Native.Nat.{◌≤◌}
use lib.ListN.{length}
use Rattle.layout.specs.Operations.{told}
use Rattle.walk.specs.Walks.{after_datas}
use Rattle.walk.proofs.Datas.{datas_left}
use Rattle.walk.proofs.walk_datas.Given as goal

abbrev pub invariant-loop-i : goal.invariant-loop-i
invariant-loop-i l = record {
  whole : told after_datas (datas_left l.big l.m.octets.now l.m.version l.m.book.now l.n l.surplus l.from 0 l.start)
      ≡ told after_datas (datas_left l.big l.m.octets.now l.m.version l.m.book.now l.n l.surplus l.from l.i l.at);
  after : l.start ≤ l.at;
  inside : l.at ≤ length l.m.octets.now;
}
