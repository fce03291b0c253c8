use Rattle.abt_service.proofs.Giving.{set-gives-all}
use Rattle.abt_service.proofs.values.set_gives_all.Goals as goal

pub returns : goal.returns
returns c = set-gives-all
