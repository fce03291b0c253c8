use Rattle.abt_interleave.proofs.Noted.{entries-pass}
use Rattle.abt_interleave.proofs.entries.entries_pass.Goals as goal

pub returns : goal.returns
returns g c = entries-pass g.M.AnyMachine.machine
