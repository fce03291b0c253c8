use Rattle.abt_run.proofs.Outputs.{output-shown}
use Rattle.abt_run.proofs.running.output.Goals as goal

pub returns : goal.returns
returns g c = λ J asked shown.
    output-shown c.args.w.now J c.args.run.now c.args.with_journal c.args.with_why c.args.run.now.outcome c.in_ok-text.text.items _ _ shown c.in_ok-text.ensures.asked c.in_ok-text.ensures.unasked c.in_ok-append_report.ensures
    c.in_ok-append_asked_why.ensures.asked c.in_ok-append_asked_why.ensures.unasked
