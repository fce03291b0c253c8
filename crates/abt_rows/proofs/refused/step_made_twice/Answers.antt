use Rattle.std.proofs.Common.{slice_index_or, refl, ap}
use Rattle.abt_rows.proofs.Deciding.{apart, holds}
use Rattle.abt_rows.proofs.refused.step_made_twice.Goals as goal

pub returns : goal.returns
returns c h = holds (apart 0 1) refl (ap (λ ks. slice_index_or ks 1 0) h.steps)
