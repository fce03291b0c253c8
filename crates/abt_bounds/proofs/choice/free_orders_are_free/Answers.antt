use Rattle.abt_bounds.proofs.Freedom.{free-orders-are-free}
use Rattle.abt_bounds.proofs.choice.free_orders_are_free.Goals as goal

pub returns : goal.returns
returns c = free-orders-are-free
