use Rattle.abt_kernels.specs.Subsequences.{tile_at, tile_edges}
use Rattle.abt_kernels.proofs.subsequences.longest_common_subsequence.Given as goal

abbrev pub ghosts-run_tiles : goal.ghosts-run_tiles
ghosts-run_tiles g a = record { row_at = λ u. tile_edges a.a.now a.b.now (tile_at a.a.now a.b.now a.grid.now u) }
