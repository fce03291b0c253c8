use Rattle.std.proofs.Common.{◌≡◌, ◌++◌, map}
use Rattle.std.specs.List.{range_with_len}
use Rattle.abt_graph.specs.Shapes.{inner, map_nodes}
use Rattle.abt_graph.proofs.shapes.reduction.Given as goal

abbrev pub invariant-loop-j : goal.invariant-loop-j
invariant-loop-j l = l.nodes.items ≡ map_nodes l.n l.leaf_function ++ map (inner l.n l.inner_function) (range_with_len 0 l.j)
