use Rattle.abt_bounds.proofs.Homes.{births-need-access}
use Rattle.abt_bounds.proofs.reach.births_need_access.Goals as goal

pub returns : goal.returns
returns c = births-need-access
