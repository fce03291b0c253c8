use Rattle.std.proofs.Common.{[], ◌∷◌, refl}
use Rattle.std.specs.Prelude.{codes}
use Rattle.std.specs.Fmt.{digits}
use Rattle.abt_machine.specs.declared.events.Outcome.TheVariants as outcome
use Rattle.abt_machine.specs.declared.operations.Op.TheVariants as op
use Rattle.abt_machine.specs.declared.workload.Parts.{Parts}
use Rattle.abt_machine.specs.Numbers.{stream_no, unit_no}
use Rattle.abt_rows.specs.Rows.{stored}
use Rattle.abt_rows.proofs.Working.{worked}
use Rattle.abt_rows.proofs.Workloads.{based_on_two, ult_at}
use Rattle.abt_rows.proofs.requests.migrate_to_stream.Goals as goal

abbrev workload : Parts
workload = based_on_two (
    ult_at 0 (op.MigrateTo (unit_no 1) (stream_no 0) ∷ []) ∷
    ult_at 0 (op.Say 0 ∷ []) ∷
    []) (codes "moved" ∷ [])

pub returns : goal.returns
unfolding digits
returns c = worked workload stored 10000 13 outcome.Finished _ _ _ refl refl refl refl refl
