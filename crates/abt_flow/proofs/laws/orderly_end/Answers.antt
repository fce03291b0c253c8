use Rattle.abt_flow.proofs.Finishing.{orderly-end}
use Rattle.abt_flow.proofs.laws.orderly_end.Goals as goal

pub returns : goal.returns
returns c = orderly-end
