use Rattle.std.proofs.Common.{[], ◌∷◌, refl}
use Rattle.std.specs.Fmt.{digits}
use Rattle.abt_machine.specs.declared.events.Outcome.TheVariants as outcome
use Rattle.abt_machine.specs.declared.operations.Op.TheVariants as op
use Rattle.abt_machine.specs.declared.workload.Parts.{Parts}
use Rattle.abt_machine.specs.Numbers.{pool_no, stream_no, unit_no}
use Rattle.abt_rows.specs.Rows.{stored}
use Rattle.abt_rows.proofs.Working.{worked}
use Rattle.abt_rows.proofs.Workloads.{based, ult_at, ult_later}
use Rattle.abt_rows.proofs.accumulators.kept_where_units_refuse.Goals as goal

abbrev workload : Parts
workload = based 0 [] (
    ult_at 0 (op.Set 7 ∷ op.YieldTo (unit_no 1) (pool_no 0) ∷ op.Print ∷ op.Resume (unit_no 1) ∷ op.Print ∷ op.Create (unit_no 0) (pool_no 0) ∷ op.Print ∷ op.Cancel (unit_no 1) ∷ op.Print ∷ op.Migrate (unit_no 1) (pool_no 0) ∷ op.Print ∷ op.MigrateTo (unit_no 1) (stream_no 0) ∷ op.Print ∷ op.Revive (unit_no 1) (pool_no 0) ∷ op.Print ∷ []) ∷
    ult_later [] ∷
    []) []

pub returns : goal.returns
unfolding digits
returns c = worked workload stored 10000 19 outcome.Finished _ _ _ refl refl refl refl refl
