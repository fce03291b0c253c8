use Rattle.abt_service.proofs.Locking.{lock-waiters-keep-order}
use Rattle.abt_service.proofs.rwlocks.lock_waiters_keep_order.Goals as goal

pub returns : goal.returns
returns c = lock-waiters-keep-order
