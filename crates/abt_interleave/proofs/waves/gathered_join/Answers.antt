-- Two waves.
use Rattle.abt_interleave.proofs.Grown.{gathered-join}
use Rattle.abt_interleave.proofs.waves.gathered_join.Goals as goal

pub returns : goal.returns
returns g c = gathered-join g.M.AnyMachine.machine
