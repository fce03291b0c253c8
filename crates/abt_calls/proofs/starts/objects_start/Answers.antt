use Rattle.abt_calls.proofs.Started.{objects-start}
use Rattle.abt_calls.proofs.starts.objects_start.Goals as goal

pub returns : goal.returns
returns c = objects-start
