use Rattle.abt_bounds.proofs.Choosing.{one-at-each-pool}
use Rattle.abt_bounds.proofs.choice.one_at_each_pool.Goals as goal

pub returns : goal.returns
returns c = one-at-each-pool
