use Rattle.std.proofs.Common.{[], ◌∷◌, refl}
use Rattle.std.specs.Fmt.{digits}
use Rattle.abt_machine.specs.declared.events.Outcome.TheVariants as outcome
use Rattle.abt_machine.specs.declared.operations.Access.TheVariants as access
use Rattle.abt_machine.specs.declared.operations.Kind.TheVariants as kind
use Rattle.abt_machine.specs.declared.operations.Rule.TheVariants as rule
use Rattle.abt_machine.specs.declared.workload.Parts.{Parts}
use Rattle.abt_machine.specs.Numbers.{stream_no}
use Rattle.abt_rows.specs.Rows.{stored}
use Rattle.abt_rows.proofs.Working.{worked}
use Rattle.abt_rows.proofs.Workloads.{declared, pool, sched, ult_at}
use Rattle.abt_rows.proofs.rounds.prio.Goals as goal

abbrev workload : Parts
workload = declared 0 (pool kind.Fifo access.Mpmc ∷ pool kind.Fifo (access.Priv (stream_no 0)) ∷ []) (sched rule.Prio (0 ∷ 1 ∷ []) ∷ []) [] (
    ult_at 0 [] ∷
    ult_at 1 [] ∷
    []) []

pub returns : goal.returns
unfolding digits
returns c = worked workload stored 10000 9 outcome.Finished _ _ _ refl refl refl refl refl
