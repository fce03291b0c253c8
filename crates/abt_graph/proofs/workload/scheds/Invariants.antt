use Rattle.std.proofs.Common.{◌≡◌, map}
use Rattle.std.specs.List.{range_with_len}
use Rattle.abt_graph.specs.Workloads.{sched_for}
use Rattle.abt_graph.proofs.workload.scheds.Given as goal

abbrev pub invariant-loop-s : goal.invariant-loop-s
invariant-loop-s l = l.scheds.items ≡ map (sched_for l.streams) (range_with_len 0 l.s)
