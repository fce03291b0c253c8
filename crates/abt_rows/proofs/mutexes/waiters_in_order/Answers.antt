use Rattle.std.proofs.Common.{[], ◌∷◌, refl}
use Rattle.std.specs.Fmt.{digits}
use Rattle.abt_machine.specs.declared.events.Outcome.TheVariants as outcome
use Rattle.abt_machine.specs.declared.operations.Op.TheVariants as op
use Rattle.abt_machine.specs.declared.operations.Thing.TheVariants as thing
use Rattle.abt_machine.specs.declared.workload.Parts.{Parts}
use Rattle.abt_machine.specs.Numbers.{object_no}
use Rattle.abt_rows.specs.Rows.{stored}
use Rattle.abt_rows.proofs.Working.{worked}
use Rattle.abt_rows.proofs.Workloads.{based, ult_at}
use Rattle.abt_rows.proofs.mutexes.waiters_in_order.Goals as goal

abbrev workload : Parts
workload = based 0 (thing.Mutex ∷ []) (
    ult_at 0 (op.Lock (object_no 0) ∷ op.Yield ∷ op.Yield ∷ op.Unlock (object_no 0) ∷ []) ∷
    ult_at 0 (op.Yield ∷ op.Lock (object_no 0) ∷ op.Unlock (object_no 0) ∷ []) ∷
    ult_at 0 (op.Lock (object_no 0) ∷ op.Unlock (object_no 0) ∷ []) ∷
    ult_at 0 (op.Lock (object_no 0) ∷ op.Unlock (object_no 0) ∷ []) ∷
    []) []

pub returns : goal.returns
unfolding digits
returns c = worked workload stored 10000 42 outcome.Finished _ _ _ refl refl refl refl refl
