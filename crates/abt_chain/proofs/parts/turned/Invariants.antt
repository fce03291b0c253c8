use Rattle.std.proofs.Common.{◌≡◌, ◌++◌, ◌+◌, reverse, length}
use Rattle.abt_unit.specs.Units.{units_in}
use Rattle.abt_chain.proofs.parts.turned.Given as goal

abbrev pub invariant-loop-rest : goal.invariant-loop-rest
invariant-loop-rest g l = record {
  units : reverse (units_in l.rest) ++ units_in l.done ≡ reverse (units_in l.fn.part) ++ units_in l.fn.onto;
  links : l.steps + length (units_in l.rest) ≡ l.fn.steps + length (units_in l.fn.part);
}
