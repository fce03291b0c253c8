use Rattle.abt_bounds.proofs.Homes.{homes-need-access}
use Rattle.abt_bounds.proofs.reach.homes_need_access.Goals as goal

pub returns : goal.returns
returns c = homes-need-access
