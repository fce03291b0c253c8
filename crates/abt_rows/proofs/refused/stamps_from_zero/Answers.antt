use Rattle.std.proofs.Common.{refl}
use Rattle.abt_rows.proofs.Deciding.{apart, holds}
use Rattle.abt_rows.proofs.refused.stamps_from_zero.Goals as goal

pub returns : goal.returns
returns c W h = holds (apart 0 1) refl h.0
