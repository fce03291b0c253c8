-- How great stamps become.
use Rattle.abt_interleave.proofs.Lows.{stamps-are-few}
use Rattle.abt_interleave.proofs.bounds.stamps_are_few.Goals as goal

pub returns : goal.returns
returns g c = stamps-are-few g.M.AnyMachine.machine
