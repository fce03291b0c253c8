use Rattle.abt_service.proofs.Waking.{future-opens}
use Rattle.abt_service.proofs.values.future_opens.Goals as goal

pub returns : goal.returns
returns c = future-opens
