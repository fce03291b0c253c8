use Rattle.std.proofs.Common.{[], ◌∷◌, refl}
use Rattle.std.specs.Prelude.{codes}
use Rattle.std.specs.Fmt.{digits}
use Rattle.abt_machine.specs.declared.events.Outcome.TheVariants as outcome
use Rattle.abt_machine.specs.declared.operations.Op.TheVariants as op
use Rattle.abt_machine.specs.declared.workload.Parts.{Parts}
use Rattle.abt_machine.specs.Numbers.{pool_no, unit_no}
use Rattle.abt_rows.specs.Rows.{stored}
use Rattle.abt_rows.proofs.Working.{worked}
use Rattle.abt_rows.proofs.Workloads.{sched_at, stacked_on_two, ult_at, ult_later}
use Rattle.abt_rows.proofs.schedulers.stacked.Goals as goal

abbrev workload : Parts
workload = stacked_on_two (
    sched_at 1 0 ∷
    ult_at 1 (op.Say 0 ∷ []) ∷
    ult_at 0 (op.Join (unit_no 0) ∷ op.Create (unit_no 3) (pool_no 1) ∷ op.Revive (unit_no 0) (pool_no 0) ∷ []) ∷
    ult_later (op.Say 1 ∷ []) ∷
    []) (codes "in" ∷ codes "again" ∷ [])

pub returns : goal.returns
unfolding digits
returns c = worked workload stored 10000 29 outcome.Finished _ _ _ refl refl refl refl refl
