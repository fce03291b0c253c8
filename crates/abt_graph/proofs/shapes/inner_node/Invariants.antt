use Rattle.std.proofs.Common.{◌≡◌, map}
use Rattle.std.specs.List.{range_with_len}
use Rattle.abt_machine.specs.Numbers.{unit_no}
use Rattle.abt_graph.proofs.shapes.inner_node.Given as goal

abbrev pub invariant-loop-k : goal.invariant-loop-k
invariant-loop-k l = l.after.items ≡ map unit_no (range_with_len l.first l.k)
