-- A history with one entry more.
use Rattle.abt_interleave.proofs.Grown.{legal-grows}
use Rattle.abt_interleave.proofs.turns.legal_grows.Goals as goal

pub returns : goal.returns
returns g c = legal-grows g.M.AnyMachine.machine
