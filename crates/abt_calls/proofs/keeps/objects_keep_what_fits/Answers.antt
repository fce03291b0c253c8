use Rattle.abt_calls.proofs.Kept.{objects-keep-what-fits}
use Rattle.abt_calls.proofs.keeps.objects_keep_what_fits.Goals as goal

pub returns : goal.returns
returns c = objects-keep-what-fits
