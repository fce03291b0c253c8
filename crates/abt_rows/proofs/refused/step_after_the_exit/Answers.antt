use Rattle.std.proofs.Common.{[], ◌∷◌, length, refl, ap}
use Rattle.abt_machine.specs.declared.operations.Op.TheVariants as op
use Rattle.abt_rows.proofs.Deciding.{apart, holds}
use Rattle.abt_rows.proofs.refused.step_after_the_exit.Goals as goal

pub returns : goal.returns
returns c h = holds (apart 1 0) refl (ap length (h.fit.1 [] (op.Print ∷ []) refl))
