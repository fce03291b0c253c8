-- Stamps by Lamport's rule.
use Rattle.abt_simulation.proofs.MergedStamps.{merged-is-lamport}
use Rattle.abt_simulation.proofs.merging.merged_is_lamport.Goals as goal

pub returns : goal.returns
returns c = merged-is-lamport
