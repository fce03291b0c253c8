use Rattle.std.proofs.Common.{[], ◌∷◌, refl}
use Rattle.std.specs.Fmt.{digits}
use Rattle.abt_machine.specs.declared.events.Outcome.TheVariants as outcome
use Rattle.abt_machine.specs.declared.operations.Op.TheVariants as op
use Rattle.abt_machine.specs.declared.workload.Parts.{Parts}
use Rattle.abt_rows.specs.Rows.{stored}
use Rattle.abt_rows.proofs.Reporting.{ran, reported}
use Rattle.abt_rows.proofs.Workloads.{based, ult_at}
use Rattle.abt_rows.proofs.locals.wrap.Goals as goal

abbrev workload : Parts
workload = based 0 [] (ult_at 0 (op.Set 18446744073709551615 ∷ op.Add 1 ∷ op.Print ∷ []) ∷ []) []

pub returns : goal.returns
unfolding digits
returns c = (_, reported workload stored 10000 (ran workload stored 7) outcome.Finished _ _ refl refl refl refl)
