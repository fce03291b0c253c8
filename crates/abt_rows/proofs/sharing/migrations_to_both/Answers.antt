use Rattle.std.proofs.Common.{[], ◌∷◌, refl}
use Rattle.std.specs.Fmt.{digits}
use Rattle.abt_machine.specs.declared.events.Outcome.TheVariants as outcome
use Rattle.abt_machine.specs.declared.operations.Access.TheVariants as access
use Rattle.abt_machine.specs.declared.operations.Kind.TheVariants as kind
use Rattle.abt_machine.specs.declared.operations.Op.TheVariants as op
use Rattle.abt_machine.specs.declared.operations.Rule.TheVariants as rule
use Rattle.abt_machine.specs.declared.workload.Parts.{Parts}
use Rattle.abt_machine.specs.Numbers.{stream_no, unit_no}
use Rattle.abt_rows.specs.Rows.{stored}
use Rattle.abt_rows.proofs.Working.{worked-at}
use Rattle.abt_rows.proofs.Workloads.{declared_for, pool, sched, ult_at, with_mains}
use Rattle.abt_rows.proofs.sharing.migrations_to_both.Goals as goal

abbrev workload : Parts
workload = with_mains (1 ∷ 0 ∷ []) (declared_for 2 0 (pool kind.Deque access.Mpmc ∷ pool kind.Fifo access.Mpmc ∷ []) (sched rule.Prio (0 ∷ 1 ∷ []) ∷ sched rule.Prio (1 ∷ 0 ∷ []) ∷ [])
    [] (
    ult_at 1 (op.MigrateTo (unit_no 1) (stream_no 0) ∷ op.MigrateTo (unit_no 2) (stream_no 1) ∷ []) ∷
    ult_at 0 [] ∷
    ult_at 1 [] ∷
    []) [])

pub returns : goal.returns
unfolding digits
returns c = worked-at workload stored 10000 ((1, 0) ∷ (1, 1) ∷ (2, 0) ∷ (3, 0) ∷ (4, 0) ∷ (4, 1) ∷ (5, 0) ∷ (5, 1) ∷ (6, 0) ∷ (6, 1) ∷ (7, 0) ∷ (7, 1) ∷ (8, 0) ∷ (8, 1) ∷ (9, 0) ∷ (9, 1) ∷ (10, 0) ∷ (11, 0) ∷ (11, 1) ∷ (12, 0) ∷ (12, 1) ∷ (13, 0) ∷ (14, 0) ∷ []) outcome.Finished _ _ _ refl refl refl refl refl refl
