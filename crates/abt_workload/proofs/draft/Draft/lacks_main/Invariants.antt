use Rattle.std.proofs.Common.{◌≡◌, drop, is_none}
use Rattle.std.specs.List.{list_any}
use Rattle.abt_workload.proofs.draft.Draft.lacks_main.Given as goal

abbrev pub invariant-loop-main : goal.invariant-loop-main
invariant-loop-main l = list_any is_none (drop l.main-index l.main-items) ≡ list_any is_none l.self.mains
