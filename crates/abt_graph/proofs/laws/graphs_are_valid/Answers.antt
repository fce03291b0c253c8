use Rattle.abt_graph.proofs.GraphParts.{IsValid-graph}
use Rattle.abt_graph.proofs.laws.graphs_are_valid.Goals as goal

pub returns : goal.returns
returns c = IsValid-graph
