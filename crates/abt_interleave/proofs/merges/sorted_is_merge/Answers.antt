-- The sorted list of deeds.
use Rattle.abt_interleave.proofs.Sorts.{sorted-is-merge}
use Rattle.abt_interleave.proofs.merges.sorted_is_merge.Goals as goal

pub returns : goal.returns
returns g c = sorted-is-merge g.M.AnyMachine.machine
