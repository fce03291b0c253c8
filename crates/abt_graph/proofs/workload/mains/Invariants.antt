use Rattle.std.proofs.Common.{◌≡◌, map}
use Rattle.std.specs.List.{range_with_len}
use Rattle.abt_machine.specs.Numbers.{sched_no}
use Rattle.abt_graph.proofs.workload.mains.Given as goal

abbrev pub invariant-loop-s : goal.invariant-loop-s
invariant-loop-s l = l.mains.items ≡ map sched_no (range_with_len 0 l.s)
