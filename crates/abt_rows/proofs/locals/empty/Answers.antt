use Rattle.std.proofs.Common.{[], refl}
use Rattle.std.specs.Fmt.{digits}
use Rattle.abt_machine.specs.declared.events.Outcome.TheVariants as outcome
use Rattle.abt_machine.specs.declared.workload.Parts.{Parts}
use Rattle.abt_rows.specs.Rows.{stored}
use Rattle.abt_rows.proofs.Working.{worked}
use Rattle.abt_rows.proofs.Workloads.{based}
use Rattle.abt_rows.proofs.locals.empty.Goals as goal

abbrev workload : Parts
workload = based 0 [] [] []

pub returns : goal.returns
unfolding digits
returns c = worked workload stored 10000 1 outcome.Finished _ _ _ refl refl refl refl refl
