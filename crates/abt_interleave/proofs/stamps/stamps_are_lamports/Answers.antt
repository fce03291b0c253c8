-- Stamps by Lamport's rule.
use Rattle.abt_interleave.proofs.Stamping.{stamps-are-lamports}
use Rattle.abt_interleave.proofs.stamps.stamps_are_lamports.Goals as goal

pub returns : goal.returns
returns g c = stamps-are-lamports g.M.AnyMachine.machine
