-- Two histories of an object.
use Rattle.abt_interleave.proofs.Grown.{histories-join}
use Rattle.abt_interleave.proofs.waves.histories_join.Goals as goal

pub returns : goal.returns
returns g c = histories-join g.M.AnyMachine.machine
