use Rattle.abt_calls.proofs.Fitting.{effects-fit}
use Rattle.abt_calls.proofs.keeps.effects_fit.Goals as goal

pub returns : goal.returns
returns c = effects-fit
