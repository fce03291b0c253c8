use Rattle.std.proofs.Common.{◌≤◌, arith}
use Rattle.abt_rows.proofs.refused.stamps_that_fall.Goals as goal

pub returns : goal.returns
returns c W h = let rises : 2 ≤ 1 = h.1.2.0.0 in absurd (omega arith)
