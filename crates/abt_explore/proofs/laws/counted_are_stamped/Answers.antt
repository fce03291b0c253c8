-- Stamps that count rise by one.
use Rattle.abt_explore.proofs.Counting.{counted-stamped}
use Rattle.abt_explore.proofs.laws.counted_are_stamped.Goals as goal

pub returns : goal.returns
returns c = counted-stamped
