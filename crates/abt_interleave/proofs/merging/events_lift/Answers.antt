-- A sorted list of events is the sorted list of the deeds.
use Rattle.abt_interleave.proofs.Lifted.{events-lift}
use Rattle.abt_interleave.proofs.merging.events_lift.Goals as goal

pub returns : goal.returns
returns g c = events-lift g.M.AnyMachine.machine g.row.E.Denot
