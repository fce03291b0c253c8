use Rattle.abt_events.proofs.Events.{events-are-steps}
use Rattle.abt_events.proofs.steps.events_are_steps.Goals as goal

pub returns : goal.returns
returns c = events-are-steps
