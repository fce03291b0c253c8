use Rattle.std.proofs.Common.{◌≡◌, ◌∙◌, Bool, ap, subst}
use Rattle.abt_words.specs.declared.commands.Command.TheVariants as command
use Rattle.abt_words.specs.declared.commands.RunWords.{RunWords}
use Rattle.abt_order.specs.Stored.{stored_of}
use Rattle.abt_record.specs.Records.{IsKept}
use Rattle.abt_shell.proofs.Fetched.{passed, passed-on}
use Rattle.abt_machine.specs.Runs.{Run}
use Rattle.abt_run.specs.Kept.{either, keeps}
use Rattle.abt_run.proofs.Outputs.{kept-has, run-is-run, shown-in}
use Rattle.abt_run.proofs.Preparing.{as-many, no-run-stops, prints-as}
use Rattle.abt_run.proofs.Small.{run-is-small}
use Rattle.abt_run.proofs.Storing.{stores_calls}
use Rattle.abt_run.proofs.running.prepare_file.Goals as goal

pub returns-in_err-w-clause-stop : goal.returns-in_err-w-clause-stop
returns-in_err-w-clause-stop g c = λ file_of agree words says.
    passed c.from_residual.result c.in_err-w.field-0.0 _ c.from_residual.ensures.1 (no-run-stops c.in_err-w.field-0.0 _
    (record { file = c.args.file.now; steps = c.args.asked; journal = c.args.with_journal; why = c.args.with_why; schedule = c.args.schedule }) _ says (c.in_err-w.ensures.stop file_of agree))

pub returns-in_err-w-clause-exceeds : goal.returns-in_err-w-clause-exceeds
returns-in_err-w-clause-exceeds g c = λ file_of agree known.
    passed-on c.from_residual.result c.in_err-w.field-0.0 _ c.from_residual.ensures.1 (c.in_err-w.ensures.exceeds file_of agree known)

pub returns-in_err-ran-clause-exceeds : goal.returns-in_err-ran-clause-exceeds
returns-in_err-ran-clause-exceeds g c = λ file_of agree known. absurd (c.in_ok-w.ensures.exceeds file_of agree known)

pub returns-in_err-text-clause-exceeds : goal.returns-in_err-text-clause-exceeds
returns-in_err-text-clause-exceeds g c = λ file_of agree known. absurd (c.in_ok-w.ensures.exceeds file_of agree known)

pub returns-clause-exceeds : goal.returns-clause-exceeds
returns-clause-exceeds g c = λ file_of agree known. absurd (c.in_ok-w.ensures.exceeds file_of agree known)

pub output-requires-clause-calls : goal.output-requires-clause-calls
output-requires-clause-calls g c = stores_calls c.in_ok-w.w _ c.known.ensures c.requires.calls

pub output-requires-clause-runs : goal.output-requires-clause-runs
output-requires-clause-runs g c =
    let left = c.in_ok-ran.ensures in
    kept-has (Run c.in_ok-w.w _) c.keeps-keeps.result left.events c.in_ok-ran.ran.journal left.kept
    (run-is-run c.in_ok-w.w _ _ left.events c.in_ok-ran.ran.outcome c.args.schedule left.holds.0)

pub returns-clause-done : goal.returns-clause-done
returns-clause-done g c = λ file_of agree words says.
    let asked : RunWords = record { file = c.args.file.now; steps = c.args.asked; journal = c.args.with_journal; why = c.args.with_why; schedule = c.args.schedule } in
    let left = c.in_ok-ran.ensures in
    let kept : c.keeps-keeps.result ≡ keeps c.args.keep (either c.args.with_journal c.args.with_why) = c.keeps-keeps.ensures ∙ ap (keeps c.args.keep) c.either-needs.ensures in
    prints-as c.in_ok-ran.ran.outcome _ c.args.keep c.ended.result.conclusion c.in_ok-ran.ran.journal c.ended.result.journal c.in_ok-text.text.items c.ended.result.text.items
    c.ended.ensures.conclusion c.ended.ensures.journal c.ended.ensures.text (record {
      command = command.Run asked;
      says = says;
      workload = c.in_ok-w.w;
      is = c.in_ok-w.ensures.reads file_of agree;
      steps = c.in_ok-w.steps;
      may = c.in_ok-w.ensures.steps file_of agree;
      journal = left.events;
      run = left.holds.0;
      scheduled = left.holds.1;
      small = run-is-small c.in_ok-w.w (stored_of c.args.orders.now (g.P.Work.returns c.args.work.now)) c.known.ensures (as-many _ c.args.orders.now 2 c.requires.orders) left.events
          (run-is-run c.in_ok-w.w _ _ left.events c.in_ok-ran.ran.outcome c.args.schedule left.holds.0);
      output = c.in_ok-text.ensures left.events asked (shown-in c.in_ok-w.w c.args.keep (either c.args.with_journal c.args.with_why) c.keeps-keeps.result _ c.in_ok-ran.ran kept left);
      kept = subst (λ (b : Bool). IsKept b left.events c.in_ok-ran.ran.journal) kept left.kept;
    })
