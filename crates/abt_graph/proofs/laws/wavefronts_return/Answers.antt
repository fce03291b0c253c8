use Rattle.abt_graph.proofs.Waving.{IsWavefront-values}
use Rattle.abt_graph.proofs.laws.wavefronts_return.Goals as goal

pub returns : goal.returns
returns c = IsWavefront-values
