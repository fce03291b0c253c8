use Rattle.abt_calls.proofs.Started.{parts-start}
use Rattle.abt_calls.proofs.starts.parts_start.Goals as goal

pub returns : goal.returns
returns c = parts-start
