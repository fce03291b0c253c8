use Rattle.std.proofs.Common.{◌≤◌, ◌+◌, arith}
use Rattle.abt_rows.proofs.refused.stamps_with_a_gap.Goals as goal

pub returns : goal.returns
returns c W h = let near : 3 ≤ 1 + 1 = h.1.0.1 in absurd (omega arith)
