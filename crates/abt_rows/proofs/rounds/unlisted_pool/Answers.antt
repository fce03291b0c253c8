use Rattle.std.proofs.Common.{[], ◌∷◌, refl}
use Rattle.std.specs.Fmt.{digits}
use Rattle.abt_machine.specs.declared.events.Outcome.TheVariants as outcome
use Rattle.abt_machine.specs.declared.operations.Rule.TheVariants as rule
use Rattle.abt_machine.specs.declared.workload.Parts.{Parts}
use Rattle.abt_rows.specs.Rows.{stored}
use Rattle.abt_rows.proofs.Reporting.{ran, reported}
use Rattle.abt_rows.proofs.Workloads.{declared, fifos, sched, ult_at}
use Rattle.abt_rows.proofs.rounds.unlisted_pool.Goals as goal

abbrev workload : Parts
workload = declared 0 (fifos 2) (sched rule.Prio (0 ∷ []) ∷ []) [] (ult_at 1 [] ∷ []) []

pub returns : goal.returns
unfolding digits
returns c = (_, reported workload stored 10000 (ran workload stored 1) outcome.Stuck _ _ refl refl refl refl)
