use Rattle.abt_calls.proofs.Asked.{plans-may-call}
use Rattle.abt_calls.proofs.asking.plans_may_call.Goals as goal

pub returns : goal.returns
returns c = plans-may-call
