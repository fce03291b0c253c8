use Rattle.abt_graph.proofs.Orderly.{IsOrderly-graph}
use Rattle.abt_graph.proofs.laws.graphs_are_orderly.Goals as goal

pub returns : goal.returns
returns c = λ streams nodes some graph. IsOrderly-graph streams nodes some graph
