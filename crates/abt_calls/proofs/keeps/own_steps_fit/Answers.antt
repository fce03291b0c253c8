use Rattle.abt_calls.proofs.Fitting.{own-steps-fit}
use Rattle.abt_calls.proofs.keeps.own_steps_fit.Goals as goal

pub returns : goal.returns
returns c = own-steps-fit
