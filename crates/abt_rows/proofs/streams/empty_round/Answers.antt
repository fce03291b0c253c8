use Rattle.std.proofs.Common.{[], ◌∷◌, ◌++◌, replicate, refl}
use Rattle.std.specs.Fmt.{digits}
use Rattle.abt_machine.specs.declared.events.Outcome.TheVariants as outcome
use Rattle.abt_machine.specs.declared.operations.Access.TheVariants as access
use Rattle.abt_machine.specs.declared.operations.Kind.TheVariants as kind
use Rattle.abt_machine.specs.declared.operations.Op.TheVariants as op
use Rattle.abt_machine.specs.declared.operations.Rule.TheVariants as rule
use Rattle.abt_machine.specs.declared.operations.Thing.TheVariants as thing
use Rattle.abt_machine.specs.declared.workload.Parts.{Parts}
use Rattle.abt_machine.specs.Numbers.{object_no, pool_no, stream_no, unit_no}
use Rattle.abt_rows.specs.Rows.{stored}
use Rattle.abt_rows.proofs.Reporting.{ran_in_turn, reported}
use Rattle.abt_rows.proofs.Workloads.{declared_for, pool, sched, ult_at, ult_later}
use Rattle.abt_rows.proofs.streams.empty_round.Goals as goal

abbrev workload : Parts
workload = declared_for 2 0 (pool kind.Fifo (access.Priv (stream_no 0)) ∷ pool kind.Fifo (access.Spsc (stream_no 0) (stream_no 1)) ∷ pool kind.Fifo (access.Spsc (stream_no 0) (stream_no 1)) ∷ [])
    (sched rule.Prio (0 ∷ []) ∷ sched (rule.User 0) (1 ∷ 2 ∷ []) ∷ []) (thing.Mutex ∷ []) (
    ult_at 0 (op.Create (unit_no 1) (pool_no 1) ∷ op.Create (unit_no 2) (pool_no 2) ∷ []) ∷
    ult_later (op.TryLock (object_no 0) ∷ []) ∷
    ult_later (op.TryLock (object_no 0) ∷ []) ∷
    []) []

pub returns : goal.returns
unfolding digits
returns c = (_, reported workload stored 10000 (ran_in_turn workload stored (replicate 2 1 ++ replicate 8 0 ++ replicate 10 1)) outcome.Finished _ _ refl refl refl refl)
