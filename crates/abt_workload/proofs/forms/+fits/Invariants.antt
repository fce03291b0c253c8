use Rattle.std.proofs.Common.{length}
use Rattle.abt_workload.proofs.forms.+fits.Given as goal

abbrev pub decreases-fits : goal.decreases-fits
decreases-fits l = length l.slots.now
