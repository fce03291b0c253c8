use Rattle.std.proofs.Common.{[], ◌∷◌, refl}
use Rattle.std.specs.Fmt.{digits}
use Rattle.abt_machine.specs.declared.events.Outcome.TheVariants as outcome
use Rattle.abt_machine.specs.declared.operations.Access.TheVariants as access
use Rattle.abt_machine.specs.declared.operations.Kind.TheVariants as kind
use Rattle.abt_machine.specs.declared.operations.Op.TheVariants as op
use Rattle.abt_machine.specs.declared.operations.Rule.TheVariants as rule
use Rattle.abt_machine.specs.declared.workload.Parts.{Parts}
use Rattle.abt_machine.specs.Numbers.{stream_no}
use Rattle.abt_rows.specs.Rows.{stored}
use Rattle.abt_rows.proofs.Working.{worked-at}
use Rattle.abt_rows.proofs.Workloads.{declared_for, pool, sched, ult_at}
use Rattle.abt_rows.proofs.calls.calls_of_two_streams.Goals as goal

abbrev workload : Parts
workload = declared_for 2 0 (pool kind.Fifo (access.Priv (stream_no 0)) ∷ pool kind.Fifo (access.Priv (stream_no 1)) ∷ []) (sched rule.Prio (0 ∷ []) ∷ sched rule.Prio (1 ∷ []) ∷ []) [] (
    ult_at 0 (op.Set 7 ∷ op.Call 0 ∷ op.Print ∷ []) ∷
    ult_at 1 (op.Call 0 ∷ op.Print ∷ []) ∷
    []) []

pub returns : goal.returns
unfolding digits
returns c = worked-at workload stored 10000 ((1, 0) ∷ (1, 1) ∷ (2, 0) ∷ (2, 1) ∷ (3, 0) ∷ (3, 1) ∷ (4, 0) ∷ (4, 1) ∷ (5, 0) ∷ (5, 1) ∷ (6, 0) ∷ (6, 1) ∷ (7, 0) ∷ []) outcome.Finished _ _ _ refl refl refl refl refl refl
