use Rattle.std.proofs.Common.{◌≡◌, replicate}
use Rattle.abt_graph.specs.Workloads.{deque}
use Rattle.abt_graph.proofs.workload.deques.Given as goal

abbrev pub invariant-loop : goal.invariant-loop
invariant-loop l = l.pools.items ≡ replicate l.counter deque
