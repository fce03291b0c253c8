use Rattle.abt_monitor.proofs.Conditions.{monitors-keep-their-conditions}
use Rattle.abt_monitor.proofs.laws.monitors_keep_their_conditions.Goals as goal

pub returns : goal.returns
returns c = monitors-keep-their-conditions
