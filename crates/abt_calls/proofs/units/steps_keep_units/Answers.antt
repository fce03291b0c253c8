use Rattle.abt_calls.proofs.EffectsKept.{steps-keep-units}
use Rattle.abt_calls.proofs.units.steps_keep_units.Goals as goal

pub returns : goal.returns
returns c = steps-keep-units
