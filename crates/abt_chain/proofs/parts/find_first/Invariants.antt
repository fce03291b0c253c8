use Rattle.std.proofs.Common.{◌≡◌}
use Rattle.std.specs.List.{find}
use Rattle.abt_machine.specs.Pools.{is_unit}
use Rattle.abt_unit.specs.Units.{units_in}
use Rattle.abt_chain.proofs.parts.find_first.Given as goal

abbrev pub invariant-loop-at : goal.invariant-loop-at
invariant-loop-at l = find (is_unit l.number.0) (units_in l.at) ≡ find (is_unit l.number.0) (units_in l.part)
