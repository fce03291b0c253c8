use Rattle.std.proofs.Common.{[], ◌∷◌, refl}
use Rattle.std.specs.Fmt.{digits}
use Rattle.abt_machine.specs.declared.events.Outcome.TheVariants as outcome
use Rattle.abt_machine.specs.declared.operations.Op.TheVariants as op
use Rattle.abt_machine.specs.declared.workload.Parts.{Parts}
use Rattle.abt_rows.specs.Rows.{stored}
use Rattle.abt_rows.proofs.Reporting.{ran, reported}
use Rattle.abt_rows.proofs.Workloads.{based, ult_at}
use Rattle.abt_rows.proofs.locals.two_keys.Goals as goal

abbrev workload : Parts
workload = based 2 [] (ult_at 0 (op.Set 9 ∷ op.KeySet 0 ∷ op.Set 8 ∷ op.KeySet 1 ∷ op.KeyGet 0 ∷ op.Print ∷ op.KeyGet 1 ∷ op.Print ∷ []) ∷ []) []

pub returns : goal.returns
unfolding digits
returns c = (_, reported workload stored 10000 (ran workload stored 12) outcome.Finished _ _ refl refl refl refl)
