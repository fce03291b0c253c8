use Rattle.abt_bounds.proofs.Homes.{requests-need-access}
use Rattle.abt_bounds.proofs.reach.requests_need_access.Goals as goal

pub returns : goal.returns
returns c = requests-need-access
