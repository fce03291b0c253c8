use Rattle.std.proofs.Common.{[], ◌∷◌, refl}
use Rattle.std.specs.Fmt.{digits}
use Rattle.abt_machine.specs.declared.events.Outcome.TheVariants as outcome
use Rattle.abt_machine.specs.declared.operations.Op.TheVariants as op
use Rattle.abt_machine.specs.declared.operations.Thing.TheVariants as thing
use Rattle.abt_machine.specs.declared.workload.Parts.{Parts}
use Rattle.abt_machine.specs.Numbers.{object_no, pool_no, unit_no}
use Rattle.abt_rows.specs.Rows.{stored}
use Rattle.abt_rows.proofs.Reporting.{ran, reported}
use Rattle.abt_rows.proofs.Workloads.{based, ult_at}
use Rattle.abt_rows.proofs.mutexes.owner_after_end.Goals as goal

abbrev workload : Parts
workload = based 0 (thing.Mutex ∷ []) (
    ult_at 0 (op.TryLock (object_no 0) ∷ op.Load (object_no 0) ∷ []) ∷
    ult_at 0 (op.Join (unit_no 0) ∷ op.TryLock (object_no 0) ∷ op.Revive (unit_no 0) (pool_no 0) ∷ []) ∷
    []) []

pub returns : goal.returns
unfolding digits
returns c = (_, reported workload stored 10000 (ran workload stored 18) outcome.Finished _ _ refl refl refl refl)
