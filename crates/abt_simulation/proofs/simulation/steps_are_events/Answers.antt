-- One step of a stream is one event.
use Rattle.abt_simulation.proofs.Events.{simulation}
use Rattle.abt_simulation.proofs.simulation.steps_are_events.Goals as goal

pub returns : goal.returns
returns c = simulation
