use Rattle.abt_calls.proofs.Asked.{ends-may-call}
use Rattle.abt_calls.proofs.asking.ends_may_call.Goals as goal

pub returns : goal.returns
returns c = ends-may-call
