use Rattle.abt_graph.proofs.Reducing.{IsReduction-values}
use Rattle.abt_graph.proofs.laws.reductions_return.Goals as goal

pub returns : goal.returns
returns c = IsReduction-values
