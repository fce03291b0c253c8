use Rattle.abt_calls.proofs.Fitting.{start-fits}
use Rattle.abt_calls.proofs.keeps.start_fits.Goals as goal

pub returns : goal.returns
returns c = start-fits
