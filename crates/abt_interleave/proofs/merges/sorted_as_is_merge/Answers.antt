-- The sorted list of events.
use Rattle.abt_interleave.proofs.Sorts.{sorted-as-is-merge, events-sort}
use Rattle.abt_interleave.proofs.merges.sorted_as_is_merge.Goals as goal

pub returns-clause-merge : goal.returns-clause-merge
returns-clause-merge g c = sorted-as-is-merge g.M.AnyMachine.machine g.row.E.Denot

pub returns-clause-sort : goal.returns-clause-sort
returns-clause-sort g c = events-sort g.M.AnyMachine.machine g.row.E.Denot
