use Rattle.abt_flow.proofs.Unique.{flow-is-one}
use Rattle.abt_flow.proofs.laws.flow_is_one.Goals as goal

pub returns : goal.returns
returns c = flow-is-one
