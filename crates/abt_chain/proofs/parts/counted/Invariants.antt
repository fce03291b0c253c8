use Rattle.std.proofs.Common.{◌≤◌, ◌+◌, length}
use Rattle.abt_unit.specs.Units.{units_in}
use Rattle.abt_chain.proofs.parts.counted.Given as goal

abbrev pub invariant-loop-at : goal.invariant-loop-at
invariant-loop-at l = l.count + length (units_in l.at) ≤ length (units_in l.part)
