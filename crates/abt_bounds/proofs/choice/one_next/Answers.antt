use Rattle.abt_bounds.proofs.Choosing.{one-next}
use Rattle.abt_bounds.proofs.choice.one_next.Goals as goal

pub returns : goal.returns
returns c = one-next
