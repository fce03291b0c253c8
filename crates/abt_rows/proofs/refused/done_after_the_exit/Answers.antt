use Rattle.std.proofs.Common.{refl, arith}
use Rattle.abt_machine.specs.declared.events.Cause.TheVariants as cause
use Rattle.abt_rows.proofs.Refusing.{only}
use Rattle.abt_rows.proofs.refused.done_after_the_exit.Goals as goal

pub returns : goal.returns
returns c h = (h.ends cause.Done (only cause.Done)).1 (0, omega arith, refl)
