use Rattle.std.proofs.Common.{Some, inr, refl}
use Rattle.abt_source.proofs.Seen.{agree-first, agree-then}
use Rattle.abt_shell.proofs.Fetched.{passed, passed-on}
use Rattle.abt_view.specs.Views.{request}
use Rattle.abt_view.proofs.Preparing.{no-journal-stops, no-workload-stops}
use Rattle.abt_view.proofs.program.prepare_named.Goals as goal

pub returns-in_err-w-clause-stop : goal.returns-in_err-w-clause-stop
returns-in_err-w-clause-stop g c = λ file_of agree words asks.
    passed c.from_residual.result c.in_err-w.field-0.0 _ c.from_residual.ensures.1
    (no-workload-stops words _ (request c.args.view c.args.journal.now (Some c.args.workload.now)) c.args.workload.now asks refl c.in_err-w.field-0.0 _ (c.in_err-w.ensures.stop file_of agree))

pub returns-in_err-journal-clause-stop : goal.returns-in_err-journal-clause-stop
returns-in_err-journal-clause-stop g c = λ file_of agree words asks.
    let first = agree-first _ _ _ file_of c.in_ok-w.ensures.grows c.in_err-journal.ensures.grows agree in
    let then = agree-then _ _ _ file_of c.in_ok-w.ensures.grows c.in_err-journal.ensures.grows agree in
    passed c.from_residual-in_err-journal.result c.in_err-journal.field-0.0 _ c.from_residual-in_err-journal.ensures.1
    (no-journal-stops words _ (request c.args.view c.args.journal.now (Some c.args.workload.now)) (Some c.in_ok-w.w) _ _ _ _ asks (c.in_ok-w.ensures.reads file_of first)
    refl c.in_ok-w.ensures.later c.in_err-journal.ensures.later c.in_err-journal.field-0.0 (c.in_err-journal.ensures.stop file_of then))

pub returns-in_err-w-clause-missing : goal.returns-in_err-w-clause-missing
returns-in_err-w-clause-missing g c = λ file_of agree gone.
    passed-on c.from_residual.result c.in_err-w.field-0.0 _ c.from_residual.ensures.1 (inr (c.in_err-w.ensures.stop file_of agree))

pub returns-clause-done : goal.returns-clause-done
returns-clause-done g c = λ file_of agree.
    let first = agree-first _ _ _ file_of c.in_ok-w.ensures.grows c.in_ok-journal.ensures.grows agree in
    let then = agree-then _ _ _ file_of c.in_ok-w.ensures.grows c.in_ok-journal.ensures.grows agree in record {
      names = Some c.in_ok-w.w;
      journal = c.in_ok-journal.journal;
      events = c.in_ok-journal.ensures.events;
      workload = c.in_ok-w.ensures.reads file_of first;
      reads = c.in_ok-journal.ensures.reads file_of then;
      pieces = c.in_ok-pieces.pieces.items;
      put_out = rw c.items.ensures at c.in_ok-pieces.ensures;
      shows = rw (c.items-2.ensures, c.deref.ensures.value) at c.in_ok-text.ensures;
      concludes = rw c.items-3.ensures at c.conclude.ensures;
    }
