-- The small machine's counters behind locks.
use Rattle.abt_interleave.proofs.Locked.{one-lock-for-both}
use Rattle.abt_interleave.proofs.example.one_lock_for_both.Goals as goal

pub returns : goal.returns
returns c = one-lock-for-both
