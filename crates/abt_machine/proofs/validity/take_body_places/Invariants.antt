use Rattle.std.proofs.Common.{◌≡◌, drop, flat_map}
use Rattle.abt_machine.specs.Checks.{places}
use Rattle.abt_machine.specs.Valid.{sched_in}
use Rattle.abt_machine.specs.declared.workload.UnitPart.{UnitPart}
use Rattle.abt_machine.proofs.validity.take_body_places.Given as goal

abbrev pub invariant-loop-part : goal.invariant-loop-part
invariant-loop-part l = places (flat_map (λ (part : UnitPart). sched_in part.body) (drop l.part-index l.units)) l.taken ≡ places (flat_map (λ (part : UnitPart). sched_in part.body) l.units) l.initial.taken
