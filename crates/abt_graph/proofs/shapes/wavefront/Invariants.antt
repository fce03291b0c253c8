use Rattle.std.proofs.Common.{◌≡◌, map}
use Rattle.std.specs.List.{range_with_len}
use Rattle.abt_graph.specs.Shapes.{cell_of}
use Rattle.abt_graph.proofs.shapes.wavefront.Given as goal

abbrev pub invariant-loop-u : goal.invariant-loop-u
invariant-loop-u l = l.nodes.items ≡ map (cell_of l.columns l.function) (range_with_len 0 l.u)
