use Rattle.abt_adders.proofs.Runs.{adders-finish}
use Rattle.abt_adders.proofs.laws.adders_finish.Goals as goal

pub returns : goal.returns
returns c = adders-finish
