use Rattle.abt_service.proofs.Taking.{few-are-before}
use Rattle.abt_service.proofs.pools.few_are_before.Goals as goal

pub returns : goal.returns
returns c = few-are-before
