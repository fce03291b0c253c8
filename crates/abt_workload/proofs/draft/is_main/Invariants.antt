use Rattle.std.proofs.Common.{◌≡◌, ◌==◌, drop, flat_map, map, option_to_list}
use Rattle.std.specs.List.{list_any}
use Rattle.abt_machine.specs.declared.numbers.SchedNo.{SchedNo}
use Rattle.abt_workload.proofs.draft.is_main.Given as goal

abbrev pub invariant-loop-main : goal.invariant-loop-main
invariant-loop-main l = list_any (λ h. h == l.g) (map (λ (h : SchedNo). h.0) (flat_map option_to_list (drop l.main-index l.mains))) ≡ list_any (λ h. h == l.g) (map (λ (h : SchedNo). h.0) (flat_map option_to_list l.mains))
