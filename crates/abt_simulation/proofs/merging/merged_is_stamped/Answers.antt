-- Stamps that leave no gap.
use Rattle.abt_simulation.proofs.MergedStamps.{merged-is-stamped}
use Rattle.abt_simulation.proofs.merging.merged_is_stamped.Goals as goal

pub returns : goal.returns
returns c = merged-is-stamped
