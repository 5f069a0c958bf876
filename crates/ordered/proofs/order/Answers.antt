-- A number is turned if the order is big.
use Rattle.ordered.proofs.Turns.{in_order_big, in_order_little}
use Rattle.ordered.proofs.order.Goals as goal

pub returns-then-big : goal.returns-then-big
returns-then-big g c =
    rw c.if-big.true (in_order_big _ _ _ c.turn.ensures)

pub returns : goal.returns
returns g c =
    rw c.if-big.false (in_order_little _ _)
