use Rattle.std.proofs.Common.{◌≡◌, take}
use Rattle.abt_graph.specs.Workloads.{fetch_ops}
use Rattle.abt_graph.proofs.workload.fetches.Given as goal

abbrev pub invariant-loop-k : goal.invariant-loop-k
invariant-loop-k l = l.ops.items ≡ fetch_ops 0 (take l.k l.after)
