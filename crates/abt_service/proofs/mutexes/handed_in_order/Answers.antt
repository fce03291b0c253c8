use Rattle.abt_service.proofs.Handing.{handed-in-order}
use Rattle.abt_service.proofs.mutexes.handed_in_order.Goals as goal

pub returns : goal.returns
returns c = handed-in-order
