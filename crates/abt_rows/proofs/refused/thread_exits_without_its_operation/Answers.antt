use Rattle.std.proofs.Common.{◌≡◌, Some}
use Rattle.abt_machine.specs.declared.events.Cause.TheVariants as cause
use Rattle.abt_machine.specs.declared.operations.Op.TheVariants as op
use Rattle.abt_rows.proofs.Refusing.{only}
use Rattle.abt_rows.proofs.refused.thread_exits_without_its_operation.Goals as goal

pub returns : goal.returns
returns c h = let is : Some op.Yield ≡ Some op.Exit = h.ends cause.Own (only cause.Own) in cc
