use Rattle.std.proofs.Common.{◌≡◌, ◌++◌, reverse}
use Rattle.std.specs.List.{find}
use Rattle.abt_machine.specs.Pools.{is_unit, without}
use Rattle.abt_unit.specs.Units.{units_in}
use Rattle.abt_chain.proofs.parts.part_at.Given as goal

abbrev pub invariant-loop-rest : goal.invariant-loop-rest
invariant-loop-rest l = record {
  units : reverse (units_in l.passed) ++ units_in l.rest ≡ units_in l.fn.part;
  found : find (is_unit l.u.0) (units_in l.rest) ≡ find (is_unit l.u.0) (units_in l.fn.part);
  others : without l.u.0 (units_in l.fn.part) ≡ reverse (units_in l.passed) ++ without l.u.0 (units_in l.rest);
}
