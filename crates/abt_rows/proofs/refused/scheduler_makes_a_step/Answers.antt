use Rattle.std.proofs.Common.{length, refl, ap}
use Rattle.abt_rows.proofs.Deciding.{apart, holds}
use Rattle.abt_rows.proofs.refused.scheduler_makes_a_step.Goals as goal

pub returns : goal.returns
returns c h = holds (apart 1 0) refl (ap length h.fit)
