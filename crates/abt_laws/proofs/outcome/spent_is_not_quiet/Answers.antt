use Rattle.abt_laws.proofs.Quiet.{spent-not-quiet}
use Rattle.abt_laws.proofs.outcome.spent_is_not_quiet.Goals as goal

pub returns : goal.returns
returns c W Z valid stored n s J run = spent-not-quiet W n s J
