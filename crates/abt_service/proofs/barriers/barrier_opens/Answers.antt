use Rattle.abt_service.proofs.Waking.{barrier-opens}
use Rattle.abt_service.proofs.barriers.barrier_opens.Goals as goal

pub returns : goal.returns
returns c = barrier-opens
