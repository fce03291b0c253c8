-- Two logs of a stream.
use Rattle.abt_interleave.proofs.Grown.{courses-join}
use Rattle.abt_interleave.proofs.waves.courses_join.Goals as goal

pub returns : goal.returns
returns g c = courses-join g.M.AnyMachine.machine
