use Rattle.abt_service.proofs.Waking.{barrier-waits}
use Rattle.abt_service.proofs.barriers.barrier_waits.Goals as goal

pub returns : goal.returns
returns c = barrier-waits
