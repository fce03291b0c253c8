use Rattle.abt_calls.proofs.EffectsKept.{effects-keep-units}
use Rattle.abt_calls.proofs.units.effects_keep_units.Goals as goal

pub returns : goal.returns
returns c = effects-keep-units
