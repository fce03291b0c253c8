use Rattle.std.proofs.Common.{[], ◌∷◌, refl}
use Rattle.std.specs.Prelude.{codes}
use Rattle.std.specs.Fmt.{digits}
use Rattle.abt_machine.specs.declared.events.Outcome.TheVariants as outcome
use Rattle.abt_machine.specs.declared.operations.Op.TheVariants as op
use Rattle.abt_machine.specs.declared.operations.Rule.TheVariants as rule
use Rattle.abt_machine.specs.declared.workload.Parts.{Parts}
use Rattle.abt_rows.specs.Rows.{stored}
use Rattle.abt_rows.proofs.Working.{worked}
use Rattle.abt_rows.proofs.Workloads.{declared, fifos, sched, ult_at}
use Rattle.abt_rows.proofs.rounds.randws_of_four.Goals as goal

abbrev workload : Parts
workload = declared 0 (fifos 4) (sched (rule.Randws 9) (0 ∷ 1 ∷ 2 ∷ 3 ∷ []) ∷ []) [] (ult_at 2 (op.Yield ∷ op.Say 0 ∷ []) ∷ []) (codes "end" ∷ [])

pub returns : goal.returns
unfolding digits
returns c = worked workload stored 10000 17 outcome.Finished _ _ _ refl refl refl refl refl
