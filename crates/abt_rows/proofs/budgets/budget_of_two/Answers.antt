use Rattle.std.proofs.Common.{[], ◌∷◌, refl}
use Rattle.std.specs.Prelude.{codes}
use Rattle.std.specs.Fmt.{digits}
use Rattle.abt_machine.specs.declared.events.Outcome.TheVariants as outcome
use Rattle.abt_machine.specs.declared.operations.Op.TheVariants as op
use Rattle.abt_machine.specs.declared.workload.Parts.{Parts}
use Rattle.abt_machine.specs.Numbers.{stream_no}
use Rattle.abt_rows.specs.Rows.{stored}
use Rattle.abt_rows.proofs.Reporting.{ran, reported}
use Rattle.abt_rows.proofs.Workloads.{based, ult_at}
use Rattle.abt_rows.proofs.budgets.budget_of_two.Goals as goal

abbrev workload : Parts
workload = based 0 [] (ult_at 0 (op.Say 0 ∷ op.Say 1 ∷ op.Say 2 ∷ []) ∷ []) (codes "a" ∷ codes "b" ∷ codes "c" ∷ [])

pub returns : goal.returns
unfolding digits
returns c = (_, reported workload stored 2 (ran workload stored 4) (outcome.Budget (stream_no 0)) _ _ refl refl refl refl)
