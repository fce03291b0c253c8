use Rattle.abt_bounds.proofs.Stamping.{stamps-fit-places}
use Rattle.abt_bounds.proofs.clock.stamps_fit_places.Goals as goal

pub returns : goal.returns
returns c = stamps-fit-places
