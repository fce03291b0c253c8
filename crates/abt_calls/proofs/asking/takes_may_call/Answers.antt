use Rattle.abt_calls.proofs.Asked.{takes-may-call}
use Rattle.abt_calls.proofs.asking.takes_may_call.Goals as goal

pub returns : goal.returns
returns c = takes-may-call
