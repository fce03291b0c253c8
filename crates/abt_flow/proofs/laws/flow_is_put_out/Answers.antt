use Rattle.abt_flow.proofs.PutOut.{flow-is-put-out}
use Rattle.abt_flow.proofs.laws.flow_is_put_out.Goals as goal

pub returns : goal.returns
returns c = flow-is-put-out
