use Rattle.std.proofs.Common.{◌≡◌, replicate}
use Rattle.abt_graph.specs.Shapes.{lone}
use Rattle.abt_graph.proofs.shapes.map.Given as goal

abbrev pub invariant-loop : goal.invariant-loop
invariant-loop l = l.nodes.items ≡ replicate l.counter (lone l.function)
