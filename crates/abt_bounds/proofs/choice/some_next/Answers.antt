use Rattle.abt_bounds.proofs.Coming.{some-next}
use Rattle.abt_bounds.proofs.choice.some_next.Goals as goal

pub returns : goal.returns
returns c = some-next
