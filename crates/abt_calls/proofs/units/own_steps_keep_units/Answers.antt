use Rattle.abt_calls.proofs.EffectsKept.{own-steps-keep-units}
use Rattle.abt_calls.proofs.units.own_steps_keep_units.Goals as goal

pub returns : goal.returns
returns c = own-steps-keep-units
