use Rattle.abt_monitor.proofs.Served.{free-mutexes-have-no-waiters}
use Rattle.abt_monitor.proofs.laws.free_mutexes_have_no_waiters.Goals as goal

pub returns : goal.returns
returns c = free-mutexes-have-no-waiters
