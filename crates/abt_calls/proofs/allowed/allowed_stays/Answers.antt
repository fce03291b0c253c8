use Rattle.abt_calls.proofs.AllowedStays.{allowed-stays}
use Rattle.abt_calls.proofs.allowed.allowed_stays.Goals as goal

pub returns : goal.returns
returns c = allowed-stays
