use Rattle.abt_flow.proofs.Outputs.{outputs-are-flow}
use Rattle.abt_flow.proofs.laws.outputs_are_flow.Goals as goal

pub returns : goal.returns
returns c = outputs-are-flow
