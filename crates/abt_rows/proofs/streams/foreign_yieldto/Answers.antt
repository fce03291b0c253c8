use Rattle.std.proofs.Common.{[], ◌∷◌, ◌++◌, replicate, refl}
use Rattle.std.specs.Prelude.{codes}
use Rattle.std.specs.Fmt.{digits}
use Rattle.abt_machine.specs.declared.events.Outcome.TheVariants as outcome
use Rattle.abt_machine.specs.declared.operations.Op.TheVariants as op
use Rattle.abt_machine.specs.declared.workload.Parts.{Parts}
use Rattle.abt_machine.specs.Numbers.{pool_no, unit_no}
use Rattle.abt_rows.specs.Rows.{stored}
use Rattle.abt_rows.proofs.Reporting.{ran_in_turn, reported}
use Rattle.abt_rows.proofs.Workloads.{fenced, ult_at}
use Rattle.abt_rows.proofs.streams.foreign_yieldto.Goals as goal

abbrev workload : Parts
workload = fenced (
    ult_at 0 (op.YieldTo (unit_no 1) (pool_no 1) ∷ op.Say 0 ∷ []) ∷
    ult_at 1 (op.Say 1 ∷ []) ∷
    []) (codes "on" ∷ codes "one" ∷ [])

pub returns : goal.returns
unfolding digits
returns c = (_, reported workload stored 10000 (ran_in_turn workload stored (replicate 6 0 ++ replicate 6 1)) outcome.Finished _ _ refl refl refl refl)
