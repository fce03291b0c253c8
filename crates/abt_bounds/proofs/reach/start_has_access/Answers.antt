use Rattle.abt_bounds.proofs.Accesses.{start-has-access}
use Rattle.abt_bounds.proofs.reach.start_has_access.Goals as goal

pub returns : goal.returns
returns c = start-has-access
