use Rattle.std.proofs.Common.{[], ◌∷◌, refl}
use Rattle.std.specs.Fmt.{digits}
use Rattle.abt_machine.specs.declared.events.Outcome.TheVariants as outcome
use Rattle.abt_machine.specs.declared.operations.Calc.TheVariants as calc
use Rattle.abt_machine.specs.declared.operations.Op.TheVariants as op
use Rattle.abt_machine.specs.declared.workload.Parts.{Parts}
use Rattle.abt_rows.specs.Rows.{stored}
use Rattle.abt_rows.proofs.Reporting.{ran, reported}
use Rattle.abt_rows.proofs.Workloads.{based, ult_at}
use Rattle.abt_rows.proofs.calls.calc_quotients.Goals as goal

abbrev workload : Parts
workload = based 2 [] (ult_at 0 (
    op.Set 2 ∷ op.KeySet 1 ∷ op.Set 7 ∷ op.Calc calc.Div 1 ∷ op.Print ∷ op.Set 0 ∷ op.KeySet 1 ∷ op.Set 18446744073709551615 ∷ op.Calc calc.Div 1 ∷ op.Print ∷ op.Set 2 ∷ op.KeySet 1 ∷ op.Set 7 ∷ op.Calc calc.Rem 1 ∷ op.Print ∷ op.Set 0 ∷ op.KeySet 1 ∷ op.Set 7 ∷ op.Calc calc.Rem 1 ∷ op.Print ∷ []) ∷
    []) []

pub returns : goal.returns
unfolding digits
returns c = (_, reported workload stored 10000 (ran workload stored 24) outcome.Finished _ _ refl refl refl refl)
