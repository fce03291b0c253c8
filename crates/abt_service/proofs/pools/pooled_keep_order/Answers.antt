use Rattle.abt_service.proofs.Taking.{pooled-keep-order}
use Rattle.abt_service.proofs.pools.pooled_keep_order.Goals as goal

pub returns : goal.returns
returns c = pooled-keep-order
