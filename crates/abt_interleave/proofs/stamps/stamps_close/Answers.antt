-- Stamps that leave no gap.
use Rattle.abt_interleave.proofs.Stamping.{stamps-close}
use Rattle.abt_interleave.proofs.stamps.stamps_close.Goals as goal

pub returns : goal.returns
returns g c = stamps-close g.M.AnyMachine.machine
