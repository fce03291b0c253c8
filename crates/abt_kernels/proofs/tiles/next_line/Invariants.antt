use Rattle.std.proofs.Common.{◌≡◌, ◌<◌, ◌+◌, ℕ, get_or, length}
use Rattle.abt_kernels.specs.Subsequences.{common_length}
use Rattle.abt_kernels.proofs.tiles.next_line.Given as goal

abbrev pub invariant-loop-k : goal.invariant-loop-k
invariant-loop-k l = record {
  diagonal : l.diagonal ≡ common_length l.a l.b l.i (l.from + l.k);
  last : l.last ≡ common_length l.a l.b (l.i + 1) (l.from + l.k);
  before : (m : ℕ) → m < l.k + 1 → get_or l.line m 0 ≡ common_length l.a l.b (l.i + 1) (l.from + m);
  after : (m : ℕ) → l.k < m → m < length l.line → get_or l.line m 0 ≡ common_length l.a l.b l.i (l.from + m);
}
