use Rattle.abt_graph.proofs.Flowing.{rows-are-values}
use Rattle.abt_graph.proofs.laws.graphs_put_out_values.Goals as goal

pub returns : goal.returns
returns c streams nodes R rows some graph flow = rows-are-values streams nodes graph R rows flow
