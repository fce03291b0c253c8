use Rattle.abt_calls.proofs.TakenBack.{hands-are-out}
use Rattle.abt_calls.proofs.desks.hands_are_out.Goals as goal

pub returns : goal.returns
returns c = hands-are-out
