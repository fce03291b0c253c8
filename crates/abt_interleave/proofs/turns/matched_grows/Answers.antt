-- One deed and its entry more.
use Rattle.abt_interleave.proofs.Grown.{matched-grows}
use Rattle.abt_interleave.proofs.turns.matched_grows.Goals as goal

pub returns : goal.returns
returns g c = matched-grows g.M.AnyMachine.machine
