use Rattle.abt_service.proofs.Locking.{writers-wait-in-order}
use Rattle.abt_service.proofs.rwlocks.writers_wait_in_order.Goals as goal

pub returns : goal.returns
returns c = writers-wait-in-order
