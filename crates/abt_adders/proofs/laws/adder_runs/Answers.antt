use Rattle.abt_adders.proofs.Runs.{adder-runs}
use Rattle.abt_adders.proofs.laws.adder_runs.Goals as goal

pub returns : goal.returns
returns c = adder-runs
