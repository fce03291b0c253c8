use Rattle.abt_service.proofs.Taking.{taken-in-order}
use Rattle.abt_service.proofs.pools.taken_in_order.Goals as goal

pub returns : goal.returns
returns c = taken-in-order
