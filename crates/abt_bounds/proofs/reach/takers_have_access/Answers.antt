use Rattle.abt_bounds.proofs.Homes.{takers-have-access}
use Rattle.abt_bounds.proofs.reach.takers_have_access.Goals as goal

pub returns : goal.returns
returns c = takers-have-access
