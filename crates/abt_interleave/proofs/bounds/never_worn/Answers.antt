-- How great stamps become.
use Rattle.abt_interleave.proofs.Lows.{never-worn}
use Rattle.abt_interleave.proofs.bounds.never_worn.Goals as goal

pub returns : goal.returns
returns g c = never-worn g.M.AnyMachine.machine
