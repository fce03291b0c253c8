use Rattle.abt_bounds.proofs.Accesses.{events-keep-access}
use Rattle.abt_bounds.proofs.reach.events_keep_access.Goals as goal

pub returns : goal.returns
returns c = events-keep-access
