use Rattle.abt_service.proofs.Locking.{events-serve-locks}
use Rattle.abt_service.proofs.rwlocks.events_serve_locks.Goals as goal

pub returns : goal.returns
returns c = events-serve-locks
