use Rattle.std.proofs.Common.{[], ◌∷◌, ◌++◌, replicate, refl}
use Rattle.std.specs.Fmt.{digits}
use Rattle.abt_machine.specs.declared.events.Outcome.TheVariants as outcome
use Rattle.abt_machine.specs.declared.operations.Access.TheVariants as access
use Rattle.abt_machine.specs.declared.operations.Kind.TheVariants as kind
use Rattle.abt_machine.specs.declared.operations.Rule.TheVariants as rule
use Rattle.abt_machine.specs.declared.workload.Parts.{Parts}
use Rattle.abt_machine.specs.Numbers.{stream_no}
use Rattle.abt_rows.specs.Rows.{stored}
use Rattle.abt_rows.proofs.Reporting.{ran_in_turn, reported}
use Rattle.abt_rows.proofs.Workloads.{declared_for, pool, sched, sched_at}
use Rattle.abt_rows.proofs.streams.access.Goals as goal

abbrev workload : Parts
workload = declared_for 2 0 (pool kind.Fifo (access.Priv (stream_no 0)) ∷ pool kind.Fifo (access.Priv (stream_no 1)) ∷ []) (sched rule.Prio (0 ∷ []) ∷ sched rule.Prio (1 ∷ []) ∷ sched rule.Prio (1 ∷ []) ∷ []) [] (
    sched_at 2 0 ∷
    []) []

pub returns : goal.returns
unfolding digits
returns c = (_, reported workload stored 10000 (ran_in_turn workload stored (replicate 4 0 ++ replicate 1 1)) outcome.Finished _ _ refl refl refl refl)
