use Rattle.std.proofs.Common.{[], ◌∷◌, codes, refl}
use Rattle.std.specs.Fmt.{digits}
use Rattle.abt_machine.specs.declared.events.Outcome.TheVariants as outcome
use Rattle.abt_machine.specs.declared.operations.Op.TheVariants as op
use Rattle.abt_machine.specs.declared.workload.Parts.{Parts}
use Rattle.abt_machine.specs.Numbers.{pool_no, unit_no}
use Rattle.abt_rows.specs.Rows.{stored}
use Rattle.abt_rows.proofs.Working.{worked}
use Rattle.abt_rows.proofs.Workloads.{based, task_later, ult_at}
use Rattle.abt_rows.proofs.calls.call_in_a_tasklet.Goals as goal

abbrev workload : Parts
workload = based 2 [] (
    ult_at 0 (op.Create (unit_no 1) (pool_no 0) ∷ op.Join (unit_no 1) ∷ op.Say 0 ∷ []) ∷
    task_later (op.Set 2 ∷ op.Call 0 ∷ op.Print ∷ []) ∷
    []) (codes "after" ∷ [])

pub returns : goal.returns
unfolding digits
returns c = worked workload stored 10000 17 outcome.Finished _ _ _ refl refl refl refl refl
