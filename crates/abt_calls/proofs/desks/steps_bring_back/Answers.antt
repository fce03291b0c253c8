use Rattle.abt_calls.proofs.TakenBack.{steps-bring-back}
use Rattle.abt_calls.proofs.desks.steps_bring_back.Goals as goal

pub returns : goal.returns
returns c = steps-bring-back
