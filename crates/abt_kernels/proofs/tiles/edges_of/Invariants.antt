use Rattle.std.proofs.Common.{◌≡◌, ◌+◌}
use Rattle.abt_kernels.specs.Subsequences.{column_cells, line_cells}
use Rattle.abt_kernels.proofs.tiles.edges_of.Given as goal

abbrev pub invariant-loop-k : goal.invariant-loop-k
invariant-loop-k l = record {
  line : l.line ≡ line_cells l.a l.b (l.tile.top + l.k) l.tile.left (l.tile.width + 1);
  edges : l.edges.items ≡ column_cells l.a l.b l.tile.top (l.tile.left + l.tile.width) (l.k + 1);
}
