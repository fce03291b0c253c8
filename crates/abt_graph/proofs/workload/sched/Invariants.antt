use Rattle.std.proofs.Common.{◌≡◌, map}
use Rattle.std.specs.List.{range_with_len}
use Rattle.abt_machine.specs.Numbers.{pool_no}
use Rattle.abt_graph.specs.Workloads.{pool_listed}
use Rattle.abt_graph.proofs.workload.sched.Given as goal

abbrev pub invariant-loop-k : goal.invariant-loop-k
invariant-loop-k l = l.pools.items ≡ map pool_no (map (pool_listed l.streams l.s) (range_with_len 0 l.k))
