use Rattle.abt_bounds.proofs.Coming.{some-after}
use Rattle.abt_bounds.proofs.choice.some_after.Goals as goal

pub returns : goal.returns
returns c = some-after
