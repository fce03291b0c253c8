use Rattle.abt_monitor.proofs.Kept.{monitors-keep-what-fits}
use Rattle.abt_monitor.proofs.laws.monitors_keep_what_fits.Goals as goal

pub returns : goal.returns
returns c = monitors-keep-what-fits
