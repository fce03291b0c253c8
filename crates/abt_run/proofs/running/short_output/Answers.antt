use Rattle.std.proofs.Common.{◌≡◌, Vec, Global, ℕ, subst}
use Rattle.std.specs.Prelude.{IfOk}
use Rattle.abt_machine.specs.Words.{Text}
use Rattle.abt_run.proofs.Outputs.{short-shown}
use Rattle.abt_run.proofs.running.short_output.Goals as goal

pub returns : goal.returns
returns c = λ J units shown.
    subst (λ (wanted : Text). IfOk c.short_report.result (λ (text : Vec ℕ Global). text.items ≡ wanted)) (short-shown c.args.w.now J c.args.run.now _ c.args.run.now.outcome shown) c.short_report.ensures
