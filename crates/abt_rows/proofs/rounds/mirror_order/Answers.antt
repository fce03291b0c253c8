use Rattle.std.proofs.Common.{[], ◌∷◌, refl}
use Rattle.std.specs.Fmt.{digits}
use Rattle.abt_machine.specs.declared.events.Outcome.TheVariants as outcome
use Rattle.abt_machine.specs.declared.operations.Rule.TheVariants as rule
use Rattle.abt_machine.specs.declared.workload.Parts.{Parts}
use Rattle.abt_rows.specs.Rows.{stored}
use Rattle.abt_rows.proofs.Working.{worked}
use Rattle.abt_rows.proofs.Workloads.{declared, fifos, sched, ult_at}
use Rattle.abt_rows.proofs.rounds.mirror_order.Goals as goal

abbrev workload : Parts
workload = declared 0 (fifos 2) (sched (rule.User 1) (0 ∷ 1 ∷ []) ∷ []) [] (
    ult_at 0 [] ∷
    ult_at 0 [] ∷
    []) []

pub returns : goal.returns
unfolding digits
returns c = worked workload stored 10000 10 outcome.Finished _ _ _ refl refl refl refl refl
