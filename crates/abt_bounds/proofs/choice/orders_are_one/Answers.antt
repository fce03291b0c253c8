use Rattle.abt_bounds.proofs.Choosing.{orders-are-one}
use Rattle.abt_bounds.proofs.choice.orders_are_one.Goals as goal

pub returns : goal.returns
returns c = orders-are-one
