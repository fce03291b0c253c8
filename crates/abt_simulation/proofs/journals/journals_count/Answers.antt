-- What is counted in the journal.
use Rattle.abt_simulation.proofs.Tallied.{journals-count}
use Rattle.abt_simulation.proofs.journals.journals_count.Goals as goal

pub returns : goal.returns
returns c = journals-count
