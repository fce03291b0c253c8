use Rattle.std.proofs.Common.{◌≡◌, reverse}
use Rattle.std.specs.Option.{option_or}
use Rattle.std.specs.List.{find}
use Rattle.abt_machine.specs.Pools.{is_unit}
use Rattle.abt_unit.specs.Units.{units_in}
use Rattle.abt_chain.specs.Results.{unit_found}
use Rattle.abt_chain.proofs.parts.find_last.Given as goal

abbrev pub invariant-loop-at : goal.invariant-loop-at
invariant-loop-at l =
    find (is_unit l.number.0) (reverse (units_in l.part)) ≡ option_or (find (is_unit l.number.0) (reverse (units_in l.at))) (unit_found l.found)
