use Rattle.std.proofs.Common.{refl}
use Rattle.abt_machine.specs.declared.events.Cause.TheVariants as cause
use Rattle.abt_rows.proofs.Deciding.{apart, holds}
use Rattle.abt_rows.proofs.Refusing.{only}
use Rattle.abt_rows.proofs.refused.scheduler_done_inside.Goals as goal

pub returns : goal.returns
returns c h = holds (apart 0 1) refl (h.ends cause.Done (only cause.Done)).1.1
