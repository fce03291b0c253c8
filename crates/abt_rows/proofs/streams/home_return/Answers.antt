use Rattle.std.proofs.Common.{[], ◌∷◌, ◌++◌, replicate, refl}
use Rattle.std.specs.Prelude.{codes}
use Rattle.std.specs.Fmt.{digits}
use Rattle.abt_machine.specs.declared.events.Outcome.TheVariants as outcome
use Rattle.abt_machine.specs.declared.operations.Op.TheVariants as op
use Rattle.abt_machine.specs.declared.workload.Parts.{Parts}
use Rattle.abt_rows.specs.Rows.{stored}
use Rattle.abt_rows.proofs.Reporting.{ran_in_turn, reported}
use Rattle.abt_rows.proofs.Workloads.{fenced, ult_at}
use Rattle.abt_rows.proofs.streams.home_return.Goals as goal

abbrev workload : Parts
workload = fenced (
    ult_at 2 (op.Yield ∷ op.Say 0 ∷ []) ∷
    []) (codes "back" ∷ [])

pub returns : goal.returns
unfolding digits
returns c = (_, reported workload stored 10000 (ran_in_turn workload stored (replicate 12 1 ++ replicate 1 0)) outcome.Finished _ _ refl refl refl refl)
