use Rattle.std.proofs.Common.{length}
use Rattle.abt_compute.proofs.Cutting.{IsCut}
use Rattle.abt_compute.proofs.numbers.read_numbers.Given as goal

abbrev pub invariant-loop-rest : goal.invariant-loop-rest
invariant-loop-rest l = IsCut l.text l.rest l.numbers.items l.count

abbrev pub decreases-loop-rest : goal.decreases-loop-rest
decreases-loop-rest l = length l.rest
