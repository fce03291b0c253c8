use Rattle.abt_desk.proofs.Kept.{desks-keep-what-fits}
use Rattle.abt_desk.proofs.laws.desks_keep_what_fits.Goals as goal

pub returns : goal.returns
returns c = desks-keep-what-fits
