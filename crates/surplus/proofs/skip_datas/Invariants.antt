-- What is left of the data is passed as all of them are.
use Rattle.layout.specs.Message.{read_data}
use Rattle.layout.specs.Result.{◌>>=◌, done}
use Rattle.surplus.proofs.Rows.{Skipping}
use Rattle.surplus.proofs.skip_datas.Given as goal

abbrev pub invariant-loop : goal.invariant-loop
invariant-loop l = Skipping l.m (λ y. read_data l.big l.m y >>= λ r. done r.1) l.n l.start l.counter l.at
