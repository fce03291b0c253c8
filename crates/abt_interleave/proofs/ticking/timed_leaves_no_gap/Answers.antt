-- One turn more.
use Rattle.abt_interleave.proofs.Ticks.{timed-leaves-no-gap}
use Rattle.abt_interleave.proofs.ticking.timed_leaves_no_gap.Goals as goal

pub returns : goal.returns
returns g c = timed-leaves-no-gap g.M.AnyMachine.machine
