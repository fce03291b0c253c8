use Rattle.std.proofs.Common.{[], ◌∷◌, refl}
use Rattle.std.specs.Fmt.{digits}
use Rattle.abt_machine.specs.declared.events.Outcome.TheVariants as outcome
use Rattle.abt_machine.specs.declared.operations.Rule.TheVariants as rule
use Rattle.abt_machine.specs.declared.workload.Parts.{Parts}
use Rattle.abt_rows.specs.Rows.{stored}
use Rattle.abt_rows.proofs.Working.{worked}
use Rattle.abt_rows.proofs.Workloads.{declared, fifos, sched, sched_at, ult_at}
use Rattle.abt_rows.proofs.schedulers.left_after_a_round.Goals as goal

abbrev workload : Parts
workload = declared 0 (fifos 3) (sched rule.Prio (0 ∷ []) ∷ sched rule.Prio (1 ∷ 2 ∷ []) ∷ []) [] (
    sched_at 1 0 ∷
    ult_at 2 [] ∷
    []) []

pub returns : goal.returns
unfolding digits
returns c = worked workload stored 10000 12 outcome.Finished _ _ _ refl refl refl refl refl
