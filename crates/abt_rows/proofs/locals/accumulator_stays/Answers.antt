use Rattle.std.proofs.Common.{[], ◌∷◌, refl}
use Rattle.std.specs.Fmt.{digits}
use Rattle.abt_machine.specs.declared.events.Outcome.TheVariants as outcome
use Rattle.abt_machine.specs.declared.operations.Combine.TheVariants as combine
use Rattle.abt_machine.specs.declared.operations.Op.TheVariants as op
use Rattle.abt_machine.specs.declared.operations.Thing.TheVariants as thing
use Rattle.abt_machine.specs.declared.workload.Parts.{Parts}
use Rattle.abt_machine.specs.Numbers.{object_no}
use Rattle.abt_rows.specs.Rows.{stored}
use Rattle.abt_rows.proofs.Reporting.{ran, reported}
use Rattle.abt_rows.proofs.Workloads.{based, ult_at}
use Rattle.abt_rows.proofs.locals.accumulator_stays.Goals as goal

abbrev workload : Parts
workload = based 1 (thing.Eventual ∷ thing.Future 1 combine.Sum ∷ []) (ult_at 0 (op.Set 7 ∷ op.EvSet (object_no 0) ∷ op.Print ∷ op.FuSet (object_no 1) ∷ op.Print ∷ op.KeySet 0 ∷ op.Print ∷ []) ∷ []) []

pub returns : goal.returns
unfolding digits
returns c = (_, reported workload stored 10000 (ran workload stored 11) outcome.Finished _ _ refl refl refl refl)
