-- The merge exists, and there is but one.
use Rattle.abt_interleave.proofs.OneList.{merges-exist, merges-are-one}
use Rattle.abt_interleave.proofs.merges.merges_exist.Goals as goal

pub returns-clause-exist : goal.returns-clause-exist
returns-clause-exist g c = merges-exist g.row.E.Denot

pub returns-clause-one : goal.returns-clause-one
returns-clause-one g c = merges-are-one g.row.E.Denot
