use Rattle.abt_service.proofs.Handing.{locks-wait-in-order}
use Rattle.abt_service.proofs.mutexes.locks_wait_in_order.Goals as goal

pub returns : goal.returns
returns c = locks-wait-in-order
