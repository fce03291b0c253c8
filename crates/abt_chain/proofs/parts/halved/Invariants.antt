use Rattle.std.proofs.Common.{◌≡◌, ◌≤◌, ◌+◌, ◌*◌, ◌++◌, reverse, length}
use Rattle.abt_unit.specs.Units.{units_in}
use Rattle.abt_chain.proofs.parts.halved.Given as goal

abbrev pub invariant-loop-left : goal.invariant-loop-left
invariant-loop-left l = record {
  units : reverse (units_in l.passed) ++ units_in l.rest ≡ units_in l.fn.part;
  half : 2 * (l.left + length (units_in l.passed)) ≤ length (units_in l.fn.part);
}

abbrev pub decreases-loop-left : goal.decreases-loop-left
decreases-loop-left l = l.left
