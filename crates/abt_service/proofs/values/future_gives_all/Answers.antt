use Rattle.abt_service.proofs.Giving.{future-gives-all}
use Rattle.abt_service.proofs.values.future_gives_all.Goals as goal

pub returns : goal.returns
returns c = future-gives-all
