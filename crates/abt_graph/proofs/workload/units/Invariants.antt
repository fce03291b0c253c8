use Rattle.std.proofs.Common.{◌≡◌, take}
use Rattle.abt_machine.specs.Words.{numbered}
use Rattle.abt_graph.specs.Workloads.{node_unit}
use Rattle.abt_graph.proofs.workload.units.Given as goal

abbrev pub invariant-loop-u : goal.invariant-loop-u
invariant-loop-u l = l.units.items ≡ numbered (node_unit l.streams) (take l.u l.nodes)
