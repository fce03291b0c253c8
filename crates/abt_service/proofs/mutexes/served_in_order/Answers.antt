use Rattle.abt_service.proofs.Turns.{served-in-order}
use Rattle.abt_service.proofs.mutexes.served_in_order.Goals as goal

pub returns : goal.returns
returns c = served-in-order
