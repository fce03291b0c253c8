use Rattle.abt_calls.proofs.Returned.{entries-come-back}
use Rattle.abt_calls.proofs.desks.entries_come_back.Goals as goal

pub returns : goal.returns
returns c = entries-come-back
