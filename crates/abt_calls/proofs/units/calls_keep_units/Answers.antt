use Rattle.abt_calls.proofs.UnitsKept.{calls-keep-units}
use Rattle.abt_calls.proofs.units.calls_keep_units.Goals as goal

pub returns : goal.returns
returns c = calls-keep-units
