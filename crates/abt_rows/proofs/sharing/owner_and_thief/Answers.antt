use Rattle.std.proofs.Common.{[], ◌∷◌, refl}
use Rattle.std.specs.Fmt.{digits}
use Rattle.abt_machine.specs.declared.events.Outcome.TheVariants as outcome
use Rattle.abt_machine.specs.declared.operations.Access.TheVariants as access
use Rattle.abt_machine.specs.declared.operations.Kind.TheVariants as kind
use Rattle.abt_machine.specs.declared.operations.Rule.TheVariants as rule
use Rattle.abt_machine.specs.declared.workload.Parts.{Parts}
use Rattle.abt_rows.specs.Rows.{stored}
use Rattle.abt_rows.proofs.Working.{worked-at}
use Rattle.abt_rows.proofs.Workloads.{declared_for, pool, sched, ult_at, with_mains}
use Rattle.abt_rows.proofs.sharing.owner_and_thief.Goals as goal

abbrev workload : Parts
workload = with_mains (1 ∷ 0 ∷ []) (declared_for 2 0 (pool kind.Deque access.Mpmc ∷ pool kind.Fifo access.Mpmc ∷ []) (sched rule.Prio (0 ∷ 1 ∷ []) ∷ sched rule.Prio (1 ∷ 0 ∷ []) ∷ [])
    [] (
    ult_at 0 [] ∷
    ult_at 0 [] ∷
    ult_at 0 [] ∷
    []) [])

pub returns : goal.returns
unfolding digits
returns c = worked-at workload stored 10000 ((1, 0) ∷ (1, 1) ∷ (2, 0) ∷ (2, 1) ∷ (3, 0) ∷ (3, 1) ∷ (4, 0) ∷ (4, 1) ∷ (5, 0) ∷ (5, 1) ∷ (6, 0) ∷ (6, 1) ∷ (7, 1) ∷ (8, 1) ∷ []) outcome.Finished _ _ _ refl refl refl refl refl refl
