use Rattle.abt_rwlock.proofs.Kept.{rwlocks-keep-what-fits}
use Rattle.abt_rwlock.proofs.laws.rwlocks_keep_what_fits.Goals as goal

pub returns : goal.returns
returns c = rwlocks-keep-what-fits
