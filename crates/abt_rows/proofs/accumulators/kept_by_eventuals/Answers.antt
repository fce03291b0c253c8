use Rattle.std.proofs.Common.{[], ◌∷◌, refl}
use Rattle.std.specs.Fmt.{digits}
use Rattle.abt_machine.specs.declared.events.Outcome.TheVariants as outcome
use Rattle.abt_machine.specs.declared.operations.Combine.TheVariants as combine
use Rattle.abt_machine.specs.declared.operations.Op.TheVariants as op
use Rattle.abt_machine.specs.declared.operations.Thing.TheVariants as thing
use Rattle.abt_machine.specs.declared.workload.Parts.{Parts}
use Rattle.abt_machine.specs.Numbers.{object_no}
use Rattle.abt_rows.specs.Rows.{stored}
use Rattle.abt_rows.proofs.Working.{worked}
use Rattle.abt_rows.proofs.Workloads.{based, ult_at}
use Rattle.abt_rows.proofs.accumulators.kept_by_eventuals.Goals as goal

abbrev workload : Parts
workload = based 0 (thing.Eventual ∷ thing.Future 1 combine.Sum ∷ thing.Barrier 1 ∷ []) (
    ult_at 0 (op.Set 7 ∷ op.EvReset (object_no 0) ∷ op.Print ∷ op.EvSet (object_no 0) ∷ op.Print ∷ op.EvSet (object_no 0) ∷ op.Print ∷ op.FuReset (object_no 1) ∷ op.Print ∷ op.FuSet (object_no 1) ∷ op.Print ∷ op.FuSet (object_no 1) ∷ op.Print ∷ op.BarWait (object_no 2) ∷ op.Print ∷ []) ∷
    []) []

pub returns : goal.returns
unfolding digits
returns c = worked workload stored 10000 19 outcome.Finished _ _ _ refl refl refl refl refl
