use Rattle.abt_bounds.proofs.Accesses.{runs-keep-access}
use Rattle.abt_bounds.proofs.reach.runs_keep_access.Goals as goal

pub returns : goal.returns
returns c = runs-keep-access
