-- A history of all objects gives one of each.
use Rattle.abt_interleave.proofs.Histories.{history-splits}
use Rattle.abt_interleave.proofs.merging.history_splits.Goals as goal

pub returns : goal.returns
returns g c = history-splits g.M.AnyMachine.machine
