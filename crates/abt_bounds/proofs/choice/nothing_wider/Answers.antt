use Rattle.abt_bounds.proofs.Turns.{nothing-wider}
use Rattle.abt_bounds.proofs.choice.nothing_wider.Goals as goal

pub returns : goal.returns
returns c = nothing-wider
