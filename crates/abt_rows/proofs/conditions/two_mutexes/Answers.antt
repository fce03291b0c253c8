use Rattle.std.proofs.Common.{[], ◌∷◌, refl}
use Rattle.std.specs.Fmt.{digits}
use Rattle.abt_machine.specs.declared.events.Outcome.TheVariants as outcome
use Rattle.abt_machine.specs.declared.operations.Op.TheVariants as op
use Rattle.abt_machine.specs.declared.operations.Thing.TheVariants as thing
use Rattle.abt_machine.specs.declared.workload.Parts.{Parts}
use Rattle.abt_machine.specs.Numbers.{object_no}
use Rattle.abt_rows.specs.Rows.{stored}
use Rattle.abt_rows.proofs.Working.{worked}
use Rattle.abt_rows.proofs.Workloads.{based, ult_at}
use Rattle.abt_rows.proofs.conditions.two_mutexes.Goals as goal

abbrev workload : Parts
workload = based 0 (thing.Eventual ∷ thing.Mutex ∷ thing.Mutex ∷ thing.Cond (object_no 1) ∷ thing.Cond (object_no 2) ∷ thing.Cond (object_no 1) ∷ thing.Cond (object_no 2) ∷ []) (
    ult_at 0 (op.Lock (object_no 1) ∷ op.CondWait (object_no 5) ∷ op.Unlock (object_no 2) ∷ op.Unlock (object_no 1) ∷ []) ∷
    ult_at 0 (op.Lock (object_no 2) ∷ op.CondWait (object_no 4) ∷ op.Unlock (object_no 1) ∷ op.Unlock (object_no 2) ∷ []) ∷
    ult_at 0 (op.Signal (object_no 3) ∷ op.Signal (object_no 6) ∷ op.Signal (object_no 4) ∷ op.Broadcast (object_no 5) ∷ []) ∷
    []) []

pub returns : goal.returns
unfolding digits
returns c = worked workload stored 10000 28 outcome.Finished _ _ _ refl refl refl refl refl
