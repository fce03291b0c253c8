use Rattle.std.proofs.Common.{[], ◌∷◌, true, refl}
use Rattle.std.specs.Fmt.{digits}
use Rattle.abt_machine.specs.declared.events.Outcome.TheVariants as outcome
use Rattle.abt_machine.specs.declared.operations.Op.TheVariants as op
use Rattle.abt_machine.specs.declared.workload.Parts.{Parts}
use Rattle.abt_machine.specs.Numbers.{pool_no, unit_no}
use Rattle.abt_rows.specs.Rows.{stored}
use Rattle.abt_rows.proofs.Reporting.{ran, reported}
use Rattle.abt_rows.proofs.Workloads.{sched_at, stacked_on_two, ult_at}
use Rattle.abt_rows.proofs.schedulers.scheduler_not_migratable.Goals as goal

abbrev workload : Parts
workload = stacked_on_two (
    ult_at 0 (op.Migratable (unit_no 1) true ∷ op.Migrate (unit_no 1) (pool_no 1) ∷ []) ∷
    sched_at 1 0 ∷
    []) []

pub returns : goal.returns
unfolding digits
returns c = (_, reported workload stored 10000 (ran workload stored 12) outcome.Finished _ _ refl refl refl refl)
