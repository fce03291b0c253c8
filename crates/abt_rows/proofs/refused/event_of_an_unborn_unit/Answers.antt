use Rattle.std.proofs.Common.{length, refl, ap}
use Rattle.abt_rows.proofs.Deciding.{apart, holds, is_less}
use Rattle.abt_rows.proofs.refused.event_of_an_unborn_unit.Goals as goal

pub returns : goal.returns
returns c h = holds (apart 1 0) refl (ap length (h.unborn 2 (holds (is_less 2 3) refl)))
