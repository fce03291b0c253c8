use Rattle.std.proofs.Common.{length, refl, ap}
use Rattle.abt_rows.proofs.Deciding.{apart, holds, is_less}
use Rattle.abt_rows.proofs.refused.revived_before_its_end.Goals as goal

pub returns : goal.returns
returns c h = holds (apart 0 1) refl (ap length (h.ended 1 1 (holds (is_less 1 3) refl) (holds (is_less 0 1) refl) (holds (is_less 1 2) refl)).1)
