use Rattle.std.proofs.Common.{◌<◌, ◌^◌, arith}
use Rattle.abt_rows.proofs.calls.returns_no_word.Goals as goal

pub returns : goal.returns
returns c h = let below : 2 ^ 64 < 2 ^ 64 = h.2.2.2.2.1.3 in absurd (omega arith)
