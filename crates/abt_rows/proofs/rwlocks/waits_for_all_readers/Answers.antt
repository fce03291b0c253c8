use Rattle.std.proofs.Common.{[], ◌∷◌, refl}
use Rattle.std.specs.Fmt.{digits}
use Rattle.abt_machine.specs.declared.events.Outcome.TheVariants as outcome
use Rattle.abt_machine.specs.declared.operations.Op.TheVariants as op
use Rattle.abt_machine.specs.declared.operations.Thing.TheVariants as thing
use Rattle.abt_machine.specs.declared.workload.Parts.{Parts}
use Rattle.abt_machine.specs.Numbers.{object_no}
use Rattle.abt_rows.specs.Rows.{stored}
use Rattle.abt_rows.proofs.Working.{worked}
use Rattle.abt_rows.proofs.Workloads.{based, ult_at}
use Rattle.abt_rows.proofs.rwlocks.waits_for_all_readers.Goals as goal

abbrev workload : Parts
workload = based 0 (thing.RwLock ∷ []) (
    ult_at 0 (op.ReadLock (object_no 0) ∷ op.ReadLock (object_no 0) ∷ op.Yield ∷ op.RwUnlock (object_no 0) ∷ op.Yield ∷ op.RwUnlock (object_no 0) ∷ []) ∷
    ult_at 0 (op.ReadLock (object_no 0) ∷ op.Yield ∷ op.RwUnlock (object_no 0) ∷ []) ∷
    ult_at 0 (op.WriteLock (object_no 0) ∷ op.RwUnlock (object_no 0) ∷ []) ∷
    []) []

pub returns : goal.returns
unfolding digits
returns c = worked workload stored 10000 33 outcome.Finished _ _ _ refl refl refl refl refl
