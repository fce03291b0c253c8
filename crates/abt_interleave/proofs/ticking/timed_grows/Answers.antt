-- One turn more.
use Rattle.abt_interleave.proofs.Ticks.{timed-grows}
use Rattle.abt_interleave.proofs.ticking.timed_grows.Goals as goal

pub returns : goal.returns
returns g c = timed-grows g.M.AnyMachine.machine
