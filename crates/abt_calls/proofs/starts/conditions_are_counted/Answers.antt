use Rattle.abt_calls.proofs.Started.{conditions-are-counted}
use Rattle.abt_calls.proofs.starts.conditions_are_counted.Goals as goal

pub returns : goal.returns
returns c = conditions-are-counted
