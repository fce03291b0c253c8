use Rattle.std.proofs.Common.{inl, inr, refl}
use Rattle.abt_source.proofs.Seen.{agree-first, agree-then}
use Rattle.abt_shell.specs.declared.status.Stop.TheVariants.{OutOfMemory}
use Rattle.abt_shell.proofs.Calls.{not-stopped, stopped-by}
use Rattle.abt_shell.proofs.Fetched.{passed, passed-on}
use Rattle.abt_run.proofs.Judging.{prints-output}
use Rattle.abt_run.proofs.Preparing.{no-workload-stops, no-output-stops}
use Rattle.abt_run.proofs.Storing.{stores_calls}
use Rattle.abt_run.proofs.reporting.prepare_output.Goals as goal

pub returns-in_err-w-clause-stop : goal.returns-in_err-w-clause-stop
returns-in_err-w-clause-stop g c = λ file_of agree words says.
    passed c.from_residual.result c.in_err-w.field-0.0 _ c.from_residual.ensures.1 (no-workload-stops c.in_err-w.field-0.0 _ _ _ _ says refl (c.in_err-w.ensures.stop file_of agree))

pub returns-in_err-read-clause-stop : goal.returns-in_err-read-clause-stop
returns-in_err-read-clause-stop g c = λ file_of agree words says.
    let first = agree-first _ _ _ file_of c.in_ok-w.ensures.grows c.in_err-read.ensures.grows agree in
    let then = agree-then _ _ _ file_of c.in_ok-w.ensures.grows c.in_err-read.ensures.grows agree in
    passed c.from_residual-in_err-read.result c.in_err-read.field-0.0 _ c.from_residual-in_err-read.ensures.1
    (no-output-stops c.in_err-read.field-0.0 _ (record { workload = c.args.workload.now; output = c.args.output.now; why = c.args.why }) c.in_ok-w.w _ _ _ says
    (c.in_ok-w.ensures.reads file_of first) c.in_ok-w.ensures.later c.in_err-read.ensures.later (c.in_err-read.ensures.stop file_of then))

pub returns-in_err-w-clause-missing : goal.returns-in_err-w-clause-missing
returns-in_err-w-clause-missing g c = λ file_of agree gone.
    passed-on c.from_residual.result c.in_err-w.field-0.0 _ c.from_residual.ensures.1 (inr (c.in_err-w.ensures.stop file_of agree))

pub returns-in_err-read-clause-missing : goal.returns-in_err-read-clause-missing
returns-in_err-read-clause-missing g c = λ file_of agree gone.
    passed-on c.from_residual-in_err-read.result c.in_err-read.field-0.0 _ c.from_residual-in_err-read.ensures.1
    (inl (stopped-by _ _ (c.in_err-read.ensures.absent (c.in_ok-w.ensures.missing c.args.output.now gone))))

pub returns-clause-missing : goal.returns-clause-missing
returns-clause-missing g c = λ file_of agree gone. absurd (not-stopped _ _ (c.in_ok-read.ensures.absent (c.in_ok-w.ensures.missing c.args.output.now gone)))

pub returns-clause-done : goal.returns-clause-done
returns-clause-done g c = λ file_of agree keep words says.
    let first = agree-first _ _ _ file_of c.in_ok-w.ensures.grows c.in_ok-read.ensures.grows agree in
    let then = agree-then _ _ _ file_of c.in_ok-w.ensures.grows c.in_ok-read.ensures.grows agree in
    prints-output _ keep c.in_ok-conclusion.conclusion c.in_ok-conclusion.text.items c.without_run.result.conclusion c.without_run.result.journal c.without_run.result.text.items
    c.without_run.ensures.conclusion c.without_run.ensures.journal c.without_run.ensures.text (record {
      workload = c.in_ok-w.w;
      journal = c.in_ok-read.read.journal;
      report = c.in_ok-read.read.report.items;
      compares = record {
        asked = record { workload = c.args.workload.now; output = c.args.output.now; why = c.args.why };
        says = says;
        reads = c.in_ok-w.ensures.reads file_of first;
        is = c.in_ok-read.ensures.reads file_of then;
      };
      steps = c.in_ok-w.steps;
      lets = c.in_ok-w.ensures.steps file_of first;
      shown = rw c.deref.ensures.value at c.in_ok-conclusion.ensures;
    })

pub output_shown-requires-clause-calls : goal.output_shown-requires-clause-calls
output_shown-requires-clause-calls g c = stores_calls c.in_ok-w.w _ c.known.ensures c.requires.calls

pub returns-in_err-conclusion-clause-stop : goal.returns-in_err-conclusion-clause-stop
returns-in_err-conclusion-clause-stop g c = λ file_of agree words says.
    passed c.from_residual-in_err-conclusion.result OutOfMemory _ c.from_residual-in_err-conclusion.ensures.1 tt
