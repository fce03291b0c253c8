use Rattle.std.proofs.Common.{[], ◌∷◌, refl}
use Rattle.std.specs.Fmt.{digits}
use Rattle.abt_machine.specs.declared.events.Outcome.TheVariants as outcome
use Rattle.abt_machine.specs.declared.operations.Op.TheVariants as op
use Rattle.abt_machine.specs.declared.workload.Parts.{Parts}
use Rattle.abt_machine.specs.Numbers.{pool_no, stream_no, unit_no}
use Rattle.abt_rows.specs.Rows.{stored}
use Rattle.abt_rows.proofs.Reporting.{ran, reported}
use Rattle.abt_rows.proofs.Workloads.{based, ult_at}
use Rattle.abt_rows.proofs.budgets.budget.Goals as goal

abbrev workload : Parts
workload = based 0 [] (
    ult_at 0 (op.Revive (unit_no 1) (pool_no 0) ∷ []) ∷
    ult_at 0 (op.Revive (unit_no 0) (pool_no 0) ∷ []) ∷
    []) []

pub returns : goal.returns
unfolding digits
returns c = (_, reported workload stored 50 (ran workload stored 251) (outcome.Budget (stream_no 0)) _ _ refl refl refl refl)
