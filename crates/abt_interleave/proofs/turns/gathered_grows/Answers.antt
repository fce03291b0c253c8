-- One turn more.
use Rattle.abt_interleave.proofs.Grown.{gathered-grows}
use Rattle.abt_interleave.proofs.turns.gathered_grows.Goals as goal

pub returns : goal.returns
returns g c = gathered-grows g.M.AnyMachine.machine
