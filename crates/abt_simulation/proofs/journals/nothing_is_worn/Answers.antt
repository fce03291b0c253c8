use Rattle.abt_simulation.proofs.Tallied.{nothing-is-worn}
use Rattle.abt_simulation.proofs.journals.nothing_is_worn.Goals as goal

pub returns : goal.returns
returns c = nothing-is-worn
