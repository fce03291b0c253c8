-- The small machine.
use Rattle.abt_interleave.proofs.Counted.{counters-merge}
use Rattle.abt_interleave.proofs.example.counters_merge.Goals as goal

pub returns : goal.returns
returns c = counters-merge
