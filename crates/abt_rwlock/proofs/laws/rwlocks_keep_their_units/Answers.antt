use Rattle.abt_rwlock.proofs.Kept.{rwlocks-keep-their-units}
use Rattle.abt_rwlock.proofs.laws.rwlocks_keep_their_units.Goals as goal

pub returns : goal.returns
returns c = rwlocks-keep-their-units
