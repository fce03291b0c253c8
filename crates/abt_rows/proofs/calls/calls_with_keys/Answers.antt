use Rattle.std.proofs.Common.{[], ◌∷◌, refl}
use Rattle.std.specs.Fmt.{digits}
use Rattle.abt_machine.specs.declared.events.Outcome.TheVariants as outcome
use Rattle.abt_machine.specs.declared.operations.Op.TheVariants as op
use Rattle.abt_machine.specs.declared.workload.Parts.{Parts}
use Rattle.abt_rows.specs.Rows.{stored}
use Rattle.abt_rows.proofs.Working.{worked}
use Rattle.abt_rows.proofs.Workloads.{based, ult_at}
use Rattle.abt_rows.proofs.calls.calls_with_keys.Goals as goal

abbrev workload : Parts
workload = based 2 [] (
    ult_at 0 (op.Set 5 ∷ op.KeySet 0 ∷ op.Set 6 ∷ op.KeySet 1 ∷ op.Set 2 ∷ op.Call 0 ∷ op.Print ∷ []) ∷
    ult_at 0 (op.Call 0 ∷ op.Print ∷ []) ∷
    []) []

pub returns : goal.returns
unfolding digits
returns c = worked workload stored 10000 16 outcome.Finished _ _ _ refl refl refl refl refl
