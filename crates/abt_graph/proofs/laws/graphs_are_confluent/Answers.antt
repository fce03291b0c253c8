use Rattle.abt_graph.proofs.Confluence.{Confluent-graph}
use Rattle.abt_graph.proofs.laws.graphs_are_confluent.Goals as goal

pub returns : goal.returns
returns c = Confluent-graph
