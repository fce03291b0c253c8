use Rattle.abt_calls.proofs.Started.{conditions-are-numbered}
use Rattle.abt_calls.proofs.starts.conditions_are_numbered.Goals as goal

pub returns : goal.returns
returns c = conditions-are-numbered
