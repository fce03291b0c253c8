use Rattle.abt_calls.proofs.Asked.{puts-may-call}
use Rattle.abt_calls.proofs.asking.puts_may_call.Goals as goal

pub returns : goal.returns
returns c = puts-may-call
