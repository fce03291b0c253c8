use Rattle.std.proofs.Common.{[], ◌∷◌, refl}
use Rattle.std.specs.Fmt.{digits}
use Rattle.abt_machine.specs.declared.events.Outcome.TheVariants as outcome
use Rattle.abt_machine.specs.declared.operations.Combine.TheVariants as combine
use Rattle.abt_machine.specs.declared.operations.Op.TheVariants as op
use Rattle.abt_machine.specs.declared.operations.Thing.TheVariants as thing
use Rattle.abt_machine.specs.declared.workload.Parts.{Parts}
use Rattle.abt_machine.specs.Numbers.{object_no}
use Rattle.abt_rows.specs.Rows.{stored}
use Rattle.abt_rows.proofs.Reporting.{ran, reported}
use Rattle.abt_rows.proofs.Workloads.{based, ult_at}
use Rattle.abt_rows.proofs.eventuals.future_combinations.Goals as goal

abbrev workload : Parts
workload = based 0 (thing.Future 2 combine.Sum ∷ thing.Future 2 combine.Max ∷ thing.Future 2 combine.Count ∷ []) (
    ult_at 0 (op.FuWait (object_no 0) ∷ op.Print ∷ op.FuWait (object_no 1) ∷ op.Print ∷ op.FuWait (object_no 2) ∷ op.Print ∷ []) ∷
    ult_at 0 (op.Set 18446744073709551615 ∷ op.FuSet (object_no 0) ∷ op.FuSet (object_no 1) ∷ op.FuSet (object_no 2) ∷ op.FuTest (object_no 0) ∷ op.Print ∷ op.Set 5 ∷ op.FuSet (object_no 0) ∷ op.FuSet (object_no 1) ∷ op.FuSet (object_no 2) ∷ op.FuTest (object_no 0) ∷ op.Print ∷ []) ∷
    []) []

pub returns : goal.returns
unfolding digits
returns c = (_, reported workload stored 10000 (ran workload stored 28) outcome.Finished _ _ refl refl refl refl)
