use Rattle.std.proofs.Common.{[], ◌∷◌, refl}
use Rattle.std.specs.Fmt.{digits}
use Rattle.abt_machine.specs.declared.events.Outcome.TheVariants as outcome
use Rattle.abt_machine.specs.declared.operations.Op.TheVariants as op
use Rattle.abt_machine.specs.declared.operations.Thing.TheVariants as thing
use Rattle.abt_machine.specs.declared.workload.Parts.{Parts}
use Rattle.abt_machine.specs.Numbers.{object_no}
use Rattle.abt_rows.specs.Rows.{stored}
use Rattle.abt_rows.proofs.Reporting.{ran, reported}
use Rattle.abt_rows.proofs.Workloads.{based, ult_at}
use Rattle.abt_rows.proofs.mutexes.number_stays.Goals as goal

abbrev workload : Parts
workload = based 0 (thing.Mutex ∷ []) (ult_at 0 (op.Lock (object_no 0) ∷ op.Set 4 ∷ op.Load (object_no 0) ∷ op.Print ∷ op.Set 5 ∷ op.Store (object_no 0) ∷ op.Print ∷ op.Set 6 ∷ op.Load (object_no 0) ∷ op.Print ∷ op.Unlock (object_no 0) ∷ op.TryLock (object_no 0) ∷ op.Set 6 ∷ op.Load (object_no 0) ∷ op.Print ∷ []) ∷ []) []

pub returns : goal.returns
unfolding digits
returns c = (_, reported workload stored 10000 (ran workload stored 19) outcome.Finished _ _ refl refl refl refl)
