use Rattle.std.proofs.Common.{[], ◌∷◌, refl}
use Rattle.std.specs.Prelude.{codes}
use Rattle.std.specs.Fmt.{digits}
use Rattle.abt_machine.specs.declared.events.Outcome.TheVariants as outcome
use Rattle.abt_machine.specs.declared.operations.Op.TheVariants as op
use Rattle.abt_machine.specs.declared.workload.Parts.{Parts}
use Rattle.abt_machine.specs.Numbers.{pool_no, unit_no}
use Rattle.abt_rows.specs.Rows.{stored}
use Rattle.abt_rows.proofs.Reporting.{ran, reported}
use Rattle.abt_rows.proofs.Workloads.{based, ult_at}
use Rattle.abt_rows.proofs.requests.revived_after_cancel.Goals as goal

abbrev workload : Parts
workload = based 0 [] (
    ult_at 0 (op.Cancel (unit_no 1) ∷ op.Join (unit_no 1) ∷ op.Revive (unit_no 1) (pool_no 0) ∷ []) ∷
    ult_at 0 (op.Say 0 ∷ []) ∷
    []) (codes "again" ∷ [])

pub returns : goal.returns
unfolding digits
returns c = (_, reported workload stored 10000 (ran workload stored 18) outcome.Finished _ _ refl refl refl refl)
