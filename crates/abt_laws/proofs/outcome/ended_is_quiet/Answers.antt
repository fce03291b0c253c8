use Rattle.abt_laws.proofs.Quiet.{ended-quiet}
use Rattle.abt_laws.proofs.outcome.ended_is_quiet.Goals as goal

pub returns : goal.returns
returns c W Z valid stored = ended-quiet W Z
