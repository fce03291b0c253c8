use Rattle.abt_service.proofs.Pooling.{events-keep-pools}
use Rattle.abt_service.proofs.pools.events_keep_pools.Goals as goal

pub returns : goal.returns
returns c = events-keep-pools
