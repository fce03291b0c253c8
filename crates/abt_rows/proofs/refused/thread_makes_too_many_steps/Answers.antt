use Rattle.std.proofs.Common.{◌≤◌, arith}
use Rattle.abt_rows.proofs.refused.thread_makes_too_many_steps.Goals as goal

pub returns : goal.returns
returns c h = let few : 2 ≤ 1 = h.fit.0 in absurd (omega arith)
