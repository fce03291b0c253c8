use Rattle.abt_bounds.proofs.Denied.{denied-are-refused}
use Rattle.abt_bounds.proofs.reach.denied_are_refused.Goals as goal

pub returns : goal.returns
returns c = denied-are-refused
