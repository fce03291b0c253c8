use Rattle.abt_graph.proofs.Mapping.{map-values}
use Rattle.abt_graph.proofs.laws.maps_return.Goals as goal

pub returns : goal.returns
returns c = map-values
