use Rattle.std.proofs.Common.{refl}
use Rattle.abt_machine.specs.declared.events.Cause.TheVariants as cause
use Rattle.abt_rows.proofs.Deciding.{apart, holds}
use Rattle.abt_rows.proofs.Refusing.{only}
use Rattle.abt_rows.proofs.refused.scheduler_barred_inside.Goals as goal

pub returns : goal.returns
returns c h = holds (apart 1 0) refl (h.ends cause.Access (only cause.Access)).1
