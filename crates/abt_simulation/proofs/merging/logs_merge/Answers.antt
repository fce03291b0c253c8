-- All logs merge into one run.
use Rattle.abt_simulation.proofs.Merged.{merging}
use Rattle.abt_simulation.proofs.merging.logs_merge.Goals as goal

pub returns : goal.returns
returns c = merging
