use Rattle.abt_service.proofs.Locking.{unlocks-wake-in-order}
use Rattle.abt_service.proofs.rwlocks.unlocks_wake_in_order.Goals as goal

pub returns : goal.returns
returns c = unlocks-wake-in-order
