use Rattle.std.proofs.Common.{◌<◌, refl, arith}
use Rattle.abt_rows.proofs.refused.stamps_out_of_order.Goals as goal

pub returns : goal.returns
returns c W h = let order : 1 < 0 = h.1.0.2 refl in absurd (omega arith)
