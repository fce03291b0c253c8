use Rattle.abt_eventual.proofs.Kept.{eventuals-keep-what-fits}
use Rattle.abt_eventual.proofs.laws.eventuals_keep_what_fits.Goals as goal

pub returns : goal.returns
returns c = eventuals-keep-what-fits
