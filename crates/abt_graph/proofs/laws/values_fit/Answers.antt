use Rattle.abt_graph.proofs.Values.{values-fit}
use Rattle.abt_graph.proofs.laws.values_fit.Goals as goal

pub returns : goal.returns
returns c nodes R graph = values-fit R nodes graph
