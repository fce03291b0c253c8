use Rattle.std.proofs.Common.{[], ◌∷◌, refl}
use Rattle.std.specs.Fmt.{digits}
use Rattle.abt_machine.specs.declared.events.Outcome.TheVariants as outcome
use Rattle.abt_machine.specs.declared.operations.Access.TheVariants as access
use Rattle.abt_machine.specs.declared.operations.Kind.TheVariants as kind
use Rattle.abt_machine.specs.declared.operations.Rule.TheVariants as rule
use Rattle.abt_machine.specs.declared.workload.Parts.{Parts}
use Rattle.abt_machine.specs.Numbers.{stream_no}
use Rattle.abt_rows.specs.Rows.{stored}
use Rattle.abt_rows.proofs.Working.{worked}
use Rattle.abt_rows.proofs.Workloads.{declared, pool, sched}
use Rattle.abt_rows.proofs.rounds.basic_classes.Goals as goal

abbrev workload : Parts
workload = declared 0 (pool kind.Fifo (access.Spmc (stream_no 0)) ∷ pool kind.Fifo access.Mpmc ∷ pool kind.Fifo (access.Spmc (stream_no 0)) ∷ pool kind.Fifo (access.Mpsc (stream_no 0)) ∷ pool kind.Fifo (access.Spsc (stream_no 0) (stream_no 0)) ∷ pool kind.Fifo (access.Mpsc (stream_no 0)) ∷ pool kind.Fifo (access.Priv (stream_no 0)) ∷ []) (sched rule.Basic (0 ∷ 1 ∷ 2 ∷ 3 ∷ 4 ∷ 5 ∷ 6 ∷ []) ∷ []) [] [] []

pub returns : goal.returns
unfolding digits
returns c = worked workload stored 10000 7 outcome.Finished _ _ _ refl refl refl refl refl
