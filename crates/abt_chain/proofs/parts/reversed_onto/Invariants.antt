use Rattle.std.proofs.Common.{◌≡◌, ◌++◌, reverse}
use Rattle.abt_unit.specs.Units.{units_in}
use Rattle.abt_chain.proofs.parts.reversed_onto.Given as goal

abbrev pub invariant-loop-rest : goal.invariant-loop-rest
invariant-loop-rest l = reverse (units_in l.rest) ++ units_in l.done ≡ reverse (units_in l.fn.part) ++ units_in l.fn.onto
