use Rattle.std.proofs.Common.{[], ◌∷◌, refl}
use Rattle.std.specs.Fmt.{digits}
use Rattle.abt_machine.specs.declared.events.Outcome.TheVariants as outcome
use Rattle.abt_machine.specs.declared.operations.Op.TheVariants as op
use Rattle.abt_machine.specs.declared.workload.Parts.{Parts}
use Rattle.abt_machine.specs.Numbers.{unit_no}
use Rattle.abt_rows.specs.Rows.{stored}
use Rattle.abt_rows.proofs.Working.{worked}
use Rattle.abt_rows.proofs.Workloads.{based, ult_at}
use Rattle.abt_rows.proofs.units.joiners_in_order.Goals as goal

abbrev workload : Parts
workload = based 0 [] (
    ult_at 0 (op.Yield ∷ op.Yield ∷ []) ∷
    ult_at 0 (op.Yield ∷ op.Join (unit_no 0) ∷ []) ∷
    ult_at 0 (op.Join (unit_no 0) ∷ []) ∷
    ult_at 0 (op.Join (unit_no 0) ∷ []) ∷
    []) []

pub returns : goal.returns
unfolding digits
returns c = worked workload stored 10000 37 outcome.Finished _ _ _ refl refl refl refl refl
