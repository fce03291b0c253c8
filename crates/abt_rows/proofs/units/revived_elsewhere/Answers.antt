use Rattle.std.proofs.Common.{[], ◌∷◌, refl}
use Rattle.std.specs.Fmt.{digits}
use Rattle.abt_machine.specs.declared.events.Outcome.TheVariants as outcome
use Rattle.abt_machine.specs.declared.operations.Op.TheVariants as op
use Rattle.abt_machine.specs.declared.workload.Parts.{Parts}
use Rattle.abt_machine.specs.Numbers.{pool_no, unit_no}
use Rattle.abt_rows.specs.Rows.{stored}
use Rattle.abt_rows.proofs.Working.{worked}
use Rattle.abt_rows.proofs.Workloads.{based_on_two, ult_at}
use Rattle.abt_rows.proofs.units.revived_elsewhere.Goals as goal

abbrev workload : Parts
workload = based_on_two (
    ult_at 0 (op.Join (unit_no 1) ∷ op.Revive (unit_no 1) (pool_no 1) ∷ []) ∷
    ult_at 0 [] ∷
    []) []

pub returns : goal.returns
unfolding digits
returns c = worked workload stored 10000 18 outcome.Finished _ _ _ refl refl refl refl refl
