-- As many are read as there are.
use native.Mathlib.Omega.{arith}
use Rattle.walk.proofs.Datas.{datas, datas_told}
use Rattle.walk.proofs.walk_datas.Goals as goal

pub returns-clause-records : goal.returns-clause-records
returns-clause-records c = datas_told _ _ _ _ _ _ _ _ _ (grind (arith, datas))
