use Rattle.abt_laws.proofs.Quiet.{quiet-stays}
use Rattle.abt_laws.proofs.outcome.quiet_stays.Goals as goal

pub returns : goal.returns
returns c W Z valid stored = quiet-stays W Z
