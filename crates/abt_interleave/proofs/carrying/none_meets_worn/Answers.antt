-- No clock is worn.
use Rattle.abt_interleave.proofs.Carried.{none-meets-worn}
use Rattle.abt_interleave.proofs.carrying.none_meets_worn.Goals as goal

pub returns : goal.returns
returns g c = none-meets-worn g.M.AnyMachine.machine g.row.L.Denot
