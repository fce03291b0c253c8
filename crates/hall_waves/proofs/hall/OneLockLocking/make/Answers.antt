-- The clock that is carried to the lock.
use Rattle.hall_waves.proofs.HallClocks.{carried-is}
use Rattle.hall_waves.proofs.hall.OneLockLocking.make.Goals as goal

pub returns-in-Ok-clause-clocks : goal.returns-in-Ok-clause-clocks
returns-in-Ok-clause-clocks g c = carried-is c.in-Ok.hall.clock c.args.objects c.in-Ok.ensures.clock
