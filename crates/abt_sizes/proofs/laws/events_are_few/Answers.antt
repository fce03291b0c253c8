use Rattle.abt_sizes.proofs.Runs.{events-are-few}
use Rattle.abt_sizes.proofs.laws.events_are_few.Goals as goal

pub returns : goal.returns
returns c = events-are-few
