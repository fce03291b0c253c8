-- The members of the merge.
use Rattle.abt_interleave.proofs.OneList.{merges-have-members, members-make-merges}
use Rattle.abt_interleave.proofs.merges.merges_have_members.Goals as goal

pub returns-clause-have : goal.returns-clause-have
returns-clause-have g c = merges-have-members g.row.E.Denot

pub returns-clause-make : goal.returns-clause-make
returns-clause-make g c = members-make-merges g.row.E.Denot
