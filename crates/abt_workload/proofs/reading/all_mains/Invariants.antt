use Rattle.std.proofs.Common.{◌≡◌, ◌++◌, drop, flat_map, option_to_list}
use Rattle.abt_workload.proofs.reading.all_mains.Given as goal

abbrev pub invariant-loop-main : goal.invariant-loop-main
invariant-loop-main l = l.all.items ++ flat_map option_to_list (drop l.main-index l.mains) ≡ flat_map option_to_list l.mains
