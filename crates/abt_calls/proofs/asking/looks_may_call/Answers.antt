use Rattle.abt_calls.proofs.Asked.{looks-may-call}
use Rattle.abt_calls.proofs.asking.looks_may_call.Goals as goal

pub returns : goal.returns
returns c = looks-may-call
