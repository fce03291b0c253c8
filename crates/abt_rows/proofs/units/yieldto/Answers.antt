use Rattle.std.proofs.Common.{[], ◌∷◌, refl}
use Rattle.std.specs.Prelude.{codes}
use Rattle.std.specs.Fmt.{digits}
use Rattle.abt_machine.specs.declared.events.Outcome.TheVariants as outcome
use Rattle.abt_machine.specs.declared.operations.Op.TheVariants as op
use Rattle.abt_machine.specs.declared.workload.Parts.{Parts}
use Rattle.abt_machine.specs.Numbers.{pool_no, unit_no}
use Rattle.abt_rows.specs.Rows.{stored}
use Rattle.abt_rows.proofs.Working.{worked}
use Rattle.abt_rows.proofs.Workloads.{based, ult_at}
use Rattle.abt_rows.proofs.units.yieldto.Goals as goal

abbrev workload : Parts
workload = based 0 [] (
    ult_at 0 (op.YieldTo (unit_no 2) (pool_no 0) ∷ op.Say 0 ∷ []) ∷
    ult_at 0 (op.Say 1 ∷ []) ∷
    ult_at 0 (op.Say 2 ∷ []) ∷
    []) (codes "zero" ∷ codes "one" ∷ codes "two" ∷ [])

pub returns : goal.returns
unfolding digits
returns c = worked workload stored 10000 16 outcome.Finished _ _ _ refl refl refl refl refl
