use Rattle.std.proofs.Common.{[], ◌∷◌, refl}
use Rattle.std.specs.Fmt.{digits}
use Rattle.abt_machine.specs.declared.events.Outcome.TheVariants as outcome
use Rattle.abt_machine.specs.declared.operations.Combine.TheVariants as combine
use Rattle.abt_machine.specs.declared.operations.Op.TheVariants as op
use Rattle.abt_machine.specs.declared.operations.Thing.TheVariants as thing
use Rattle.abt_machine.specs.declared.workload.Parts.{Parts}
use Rattle.abt_machine.specs.Numbers.{object_no}
use Rattle.abt_rows.specs.Rows.{stored}
use Rattle.abt_rows.proofs.Working.{worked}
use Rattle.abt_rows.proofs.Workloads.{based, ult_at}
use Rattle.abt_rows.proofs.eventuals.future_wakes_in_order.Goals as goal

abbrev workload : Parts
workload = based 0 (thing.Future 1 combine.Count ∷ []) (
    ult_at 0 (op.FuWait (object_no 0) ∷ []) ∷
    ult_at 0 (op.FuWait (object_no 0) ∷ []) ∷
    ult_at 0 (op.FuSet (object_no 0) ∷ []) ∷
    []) []

pub returns : goal.returns
unfolding digits
returns c = worked workload stored 10000 19 outcome.Finished _ _ _ refl refl refl refl refl
