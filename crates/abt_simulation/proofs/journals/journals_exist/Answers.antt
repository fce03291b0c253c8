-- The journal.
use Rattle.abt_simulation.proofs.Tallied.{journals-exist, journals-are-merges}
use Rattle.abt_simulation.proofs.journals.journals_exist.Goals as goal

pub returns-clause-exist : goal.returns-clause-exist
returns-clause-exist c = journals-exist

pub returns-clause-merge : goal.returns-clause-merge
returns-clause-merge c = journals-are-merges
