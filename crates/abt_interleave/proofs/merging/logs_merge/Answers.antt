-- The sorted list of all deeds is a run.
use Rattle.abt_interleave.proofs.Merged.{logs-merge}
use Rattle.abt_interleave.proofs.merging.logs_merge.Goals as goal

pub returns : goal.returns
returns g c = logs-merge g.M.AnyMachine.machine
