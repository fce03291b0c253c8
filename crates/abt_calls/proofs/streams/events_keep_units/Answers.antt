use Rattle.abt_calls.proofs.TurnUnits.{events-keep-units}
use Rattle.abt_calls.proofs.streams.events_keep_units.Goals as goal

pub returns : goal.returns
returns c = events-keep-units
