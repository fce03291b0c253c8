use Rattle.std.proofs.Common.{◌≡◌, ◌==◌, drop, flat_map}
use Rattle.std.specs.List.{list_any}
use Rattle.abt_machine.specs.Valid.{sched_in}
use Rattle.abt_machine.specs.declared.workload.UnitPart.{UnitPart}
use Rattle.abt_workload.proofs.draft.is_body.Given as goal

abbrev pub invariant-loop-part : goal.invariant-loop-part
invariant-loop-part l = list_any (λ h. h == l.g) (flat_map (λ (part : UnitPart). sched_in part.body) (drop l.part-index l.units)) ≡ list_any (λ h. h == l.g) (flat_map (λ (part : UnitPart). sched_in part.body) l.units)
