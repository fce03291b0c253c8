use Rattle.abt_flow.proofs.Finishing.{orderly-finish}
use Rattle.abt_flow.proofs.laws.orderly_finish.Goals as goal

pub returns : goal.returns
returns c = orderly-finish
