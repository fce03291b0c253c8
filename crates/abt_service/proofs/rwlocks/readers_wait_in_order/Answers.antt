use Rattle.abt_service.proofs.Locking.{readers-wait-in-order}
use Rattle.abt_service.proofs.rwlocks.readers_wait_in_order.Goals as goal

pub returns : goal.returns
returns c = readers-wait-in-order
