use Rattle.abt_adders.proofs.Runs.{adders-are-not-stuck}
use Rattle.abt_adders.proofs.laws.adders_are_not_stuck.Goals as goal

pub returns : goal.returns
returns c = adders-are-not-stuck
