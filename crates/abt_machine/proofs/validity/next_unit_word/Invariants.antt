use Rattle.std.proofs.Common.{◌≡◌, drop, flat_map}
use Rattle.abt_machine.specs.Checks.{after_said}
use Rattle.abt_machine.specs.Operations.{said_by}
use Rattle.abt_machine.specs.Workloads.{ops_of}
use Rattle.abt_machine.specs.declared.workload.UnitPart.{UnitPart}
use Rattle.abt_machine.proofs.validity.next_unit_word.Given as goal

abbrev pub invariant-loop-part : goal.invariant-loop-part
invariant-loop-part l =
    after_said l.next (flat_map (λ (part : UnitPart). flat_map said_by (ops_of part.body)) (drop l.part-index l.units))
    ≡ after_said l.from (flat_map (λ (part : UnitPart). flat_map said_by (ops_of part.body)) l.units)
