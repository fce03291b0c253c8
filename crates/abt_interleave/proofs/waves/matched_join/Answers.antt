-- Two waves that fit.
use Rattle.abt_interleave.proofs.Grown.{matched-join}
use Rattle.abt_interleave.proofs.waves.matched_join.Goals as goal

pub returns : goal.returns
returns g c = matched-join g.M.AnyMachine.machine
