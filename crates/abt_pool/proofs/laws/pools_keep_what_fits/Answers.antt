use Rattle.abt_pool.proofs.Kept.{pools-keep-what-fits}
use Rattle.abt_pool.proofs.laws.pools_keep_what_fits.Goals as goal

pub returns : goal.returns
returns c = pools-keep-what-fits
