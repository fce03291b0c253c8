use Rattle.std.proofs.Common.{length}
use Rattle.commons_caller.proofs.tests.crossing.push_numbers.Given as goal

abbrev pub decreases-loop-unit : goal.decreases-loop-unit
decreases-loop-unit l = length l.units.units
