use Rattle.abt_barrier.proofs.Kept.{barriers-keep-what-fits}
use Rattle.abt_barrier.proofs.laws.barriers_keep_what_fits.Goals as goal

pub returns : goal.returns
returns c = barriers-keep-what-fits
