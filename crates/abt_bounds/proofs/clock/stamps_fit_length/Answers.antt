use Rattle.abt_bounds.proofs.Stamping.{stamps-fit-length}
use Rattle.abt_bounds.proofs.clock.stamps_fit_length.Goals as goal

pub returns : goal.returns
returns c = stamps-fit-length
