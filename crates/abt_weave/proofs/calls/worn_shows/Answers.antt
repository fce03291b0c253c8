-- A call of a booth.
use Rattle.abt_weave.proofs.Booths.{worn-shows}
use Rattle.abt_weave.proofs.calls.worn_shows.Goals as goal

pub returns : goal.returns
returns g c = worn-shows g.M.AnyMachine.machine g.B.Object.does g.row.L.Denot
