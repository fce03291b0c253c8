-- The small machine's counters behind locks.
use Rattle.abt_interleave.proofs.Locked.{locks-for-each}
use Rattle.abt_interleave.proofs.example.locks_for_each.Goals as goal

pub returns : goal.returns
returns c = locks-for-each
