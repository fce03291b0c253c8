-- How great stamps become.
use Rattle.abt_interleave.proofs.Lows.{stamped-stays-low}
use Rattle.abt_interleave.proofs.bounds.stamped_stays_low.Goals as goal

pub returns : goal.returns
returns g c = stamped-stays-low g.M.AnyMachine.machine
