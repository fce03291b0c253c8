-- One turn more.
use Rattle.abt_interleave.proofs.Ticks.{no-gap-grows}
use Rattle.abt_interleave.proofs.ticking.no_gap_grows.Goals as goal

pub returns : goal.returns
returns g c = no-gap-grows g.M.AnyMachine.machine
