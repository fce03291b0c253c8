use Rattle.abt_service.proofs.Waking.{set-wakes-all}
use Rattle.abt_service.proofs.values.set_wakes_all.Goals as goal

pub returns : goal.returns
returns c = set-wakes-all
