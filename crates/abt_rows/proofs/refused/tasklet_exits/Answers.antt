use Rattle.std.proofs.Common.{refl}
use Rattle.abt_machine.specs.declared.events.Cause.TheVariants as cause
use Rattle.abt_rows.proofs.Refusing.{only}
use Rattle.abt_rows.proofs.refused.tasklet_exits.Goals as goal

pub returns : goal.returns
returns c h = (h.ends cause.Own (only cause.Own)).1 refl
