use Rattle.abt_eventual.proofs.Kept.{futures-keep-what-fits}
use Rattle.abt_eventual.proofs.laws.futures_keep_what_fits.Goals as goal

pub returns : goal.returns
returns c = futures-keep-what-fits
