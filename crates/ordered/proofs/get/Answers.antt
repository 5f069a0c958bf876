-- What is read least significant first is turned if the order is big.
use Rattle.ordered.proofs.Turns.{spelt_by}
use Rattle.ordered.proofs.get.Goals as goal

pub returns : goal.returns
returns g c =
    spelt_by _ _ c.get.ensures c.order.ensures
