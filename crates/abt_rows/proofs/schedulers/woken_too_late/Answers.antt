use Rattle.std.proofs.Common.{[], ◌∷◌, refl}
use Rattle.std.specs.Prelude.{codes}
use Rattle.std.specs.Fmt.{digits}
use Rattle.abt_machine.specs.declared.events.Outcome.TheVariants as outcome
use Rattle.abt_machine.specs.declared.operations.Op.TheVariants as op
use Rattle.abt_machine.specs.declared.workload.Parts.{Parts}
use Rattle.abt_machine.specs.Numbers.{unit_no}
use Rattle.abt_rows.specs.Rows.{stored}
use Rattle.abt_rows.proofs.Reporting.{ran, reported}
use Rattle.abt_rows.proofs.Workloads.{sched_at, stacked_on_two, ult_at}
use Rattle.abt_rows.proofs.schedulers.woken_too_late.Goals as goal

abbrev workload : Parts
workload = stacked_on_two (
    sched_at 1 0 ∷
    ult_at 1 (op.Suspend ∷ op.Say 0 ∷ []) ∷
    ult_at 0 (op.Resume (unit_no 1) ∷ []) ∷
    []) (codes "late" ∷ [])

pub returns : goal.returns
unfolding digits
returns c = (_, reported workload stored 10000 (ran workload stored 15) outcome.Stuck _ _ refl refl refl refl)
