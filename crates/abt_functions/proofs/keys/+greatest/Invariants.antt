use Rattle.std.proofs.Common.{length}
use Rattle.abt_functions.proofs.keys.+greatest.Given as goal

abbrev pub decreases-greatest : goal.decreases-greatest
decreases-greatest l = length l.keys.now
