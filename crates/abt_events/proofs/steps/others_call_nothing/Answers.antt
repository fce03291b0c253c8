use Rattle.abt_events.proofs.Events.{others-call-nothing}
use Rattle.abt_events.proofs.steps.others_call_nothing.Goals as goal

pub returns : goal.returns
returns c = others-call-nothing
