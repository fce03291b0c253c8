use Rattle.std.proofs.Common.{[], ◌∷◌, refl}
use Rattle.std.specs.Fmt.{digits}
use Rattle.abt_machine.specs.declared.events.Outcome.TheVariants as outcome
use Rattle.abt_machine.specs.declared.operations.Access.TheVariants as access
use Rattle.abt_machine.specs.declared.operations.Kind.TheVariants as kind
use Rattle.abt_machine.specs.declared.operations.Op.TheVariants as op
use Rattle.abt_machine.specs.declared.operations.Rule.TheVariants as rule
use Rattle.abt_machine.specs.declared.workload.Parts.{Parts}
use Rattle.abt_machine.specs.Numbers.{pool_no, stream_no, unit_no}
use Rattle.abt_rows.specs.Rows.{stored}
use Rattle.abt_rows.proofs.Working.{worked-at}
use Rattle.abt_rows.proofs.Workloads.{declared_for, pool, sched, ult_at, ult_later}
use Rattle.abt_rows.proofs.sharing.others_pools.Goals as goal

abbrev workload : Parts
workload = declared_for 2 0 (pool kind.Fifo (access.Spmc (stream_no 0)) ∷ pool kind.Fifo (access.Mpsc (stream_no 0)) ∷ []) (sched rule.Prio (1 ∷ []) ∷ sched rule.Prio (0 ∷ []) ∷ [])
    [] (
    ult_at 1 (op.Create (unit_no 1) (pool_no 0) ∷ []) ∷
    ult_later (op.Create (unit_no 2) (pool_no 0) ∷ op.YieldTo (unit_no 2) (pool_no 1) ∷ op.Create (unit_no 2) (pool_no 1) ∷ []) ∷
    ult_later [] ∷
    []) []

pub returns : goal.returns
unfolding digits
returns c = worked-at workload stored 10000 ((1, 0) ∷ (1, 1) ∷ (2, 0) ∷ (3, 0) ∷ (4, 0) ∷ (5, 0) ∷ (5, 1) ∷ (6, 0) ∷ (6, 1) ∷ (7, 1) ∷ (8, 1) ∷ (9, 1) ∷ (10, 1) ∷ (11, 0) ∷ (11, 1) ∷ (12, 0) ∷ (12, 1) ∷ (13, 0) ∷ (14, 0) ∷ []) outcome.Finished _ _ _ refl refl refl refl refl refl
