use Rattle.std.proofs.Common.{◌<◌, [], refl, arith}
use Rattle.abt_rows.proofs.calls.may_return.Goals as goal

pub returns : goal.returns
returns c = let one : 0 < 1 = omega arith in (one, (refl, refl, (_, refl, ([], refl))), (one, (refl, refl), (one, (refl, refl, refl, refl), tt)))
