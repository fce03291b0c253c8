use Rattle.abt_service.proofs.Turns.{waiters-keep-order}
use Rattle.abt_service.proofs.mutexes.waiters_keep_order.Goals as goal

pub returns : goal.returns
returns c = waiters-keep-order
