use Rattle.abt_calls.proofs.TurnUnits.{events-fit}
use Rattle.abt_calls.proofs.streams.events_fit.Goals as goal

pub returns : goal.returns
returns c = events-fit
