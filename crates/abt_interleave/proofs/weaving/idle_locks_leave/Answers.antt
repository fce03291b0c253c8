-- A lock that nobody called.
use Rattle.abt_interleave.proofs.Weaves.{idle-locks-leave}
use Rattle.abt_interleave.proofs.weaving.idle_locks_leave.Goals as goal

pub returns : goal.returns
returns g c = idle-locks-leave g.M.AnyMachine.machine g.row.L.Denot
