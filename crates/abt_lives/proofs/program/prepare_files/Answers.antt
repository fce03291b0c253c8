use Rattle.std.proofs.Common.{inl, inr, refl}
use Rattle.abt_source.proofs.Seen.{agree-first, agree-then}
use Rattle.abt_shell.proofs.Calls.{not-stopped, stopped-by}
use Rattle.abt_shell.proofs.Fetched.{passed, passed-on}
use Rattle.abt_order.specs.Stored.{stored_of}
use Rattle.abt_words.specs.declared.lives.LivesWords.{LivesWords}
use Rattle.abt_run.specs.Given.{Given, given}
use Rattle.abt_run.proofs.Stepping.{not-exceeded}
use Rattle.abt_lives.proofs.Preparing.{no-lives-stops, no-run-stops, ran-as}
use Rattle.abt_lives.proofs.program.prepare_files.Goals as goal

pub returns-in_err-w-clause-stop : goal.returns-in_err-w-clause-stop
returns-in_err-w-clause-stop g c = λ file_of agree words says.
    let asked : LivesWords = record { workload = c.args.workload.now; lives = c.args.lives.now; steps = c.args.asked; journal = c.args.with_journal } in
    let it : Given = given words (stored_of c.args.orders.now (g.P.Work.returns c.args.work.now)) file_of in
    passed c.from_residual.result c.in_err-w.field-0.0 _ c.from_residual.ensures.1 (no-run-stops it asked says c.in_err-w.field-0.0 _ (c.in_err-w.ensures.stop file_of agree))

pub returns-in_err-lives-clause-stop : goal.returns-in_err-lives-clause-stop
returns-in_err-lives-clause-stop g c = λ file_of agree words says.
    let asked : LivesWords = record { workload = c.args.workload.now; lives = c.args.lives.now; steps = c.args.asked; journal = c.args.with_journal } in
    let it : Given = given words (stored_of c.args.orders.now (g.P.Work.returns c.args.work.now)) file_of in
    let first = agree-first _ _ _ file_of c.in_ok-w.ensures.grows c.in_err-lives.ensures.grows agree in
    let then = agree-then _ _ _ file_of c.in_ok-w.ensures.grows c.in_err-lives.ensures.grows agree in
    passed c.from_residual-in_err-lives.result c.in_err-lives.field-0.0 _ c.from_residual-in_err-lives.ensures.1
    (no-lives-stops it asked says c.in_err-lives.field-0.0 c.in_ok-w.w _ _ _ _ (c.in_ok-w.ensures.reads file_of first) refl c.in_ok-w.ensures.later c.in_err-lives.ensures.later
    (c.in_err-lives.ensures.stop file_of then))

pub returns-clause-done : goal.returns-clause-done
returns-clause-done g c = λ file_of agree words says.
    let asked : LivesWords = record { workload = c.args.workload.now; lives = c.args.lives.now; steps = c.args.asked; journal = c.args.with_journal } in
    let it : Given = given words (stored_of c.args.orders.now (g.P.Work.returns c.args.work.now)) file_of in
    let first = agree-first _ _ _ file_of c.in_ok-w.ensures.grows c.in_ok-lives.ensures.grows agree in
    let then = agree-then _ _ _ file_of c.in_ok-w.ensures.grows c.in_ok-lives.ensures.grows agree in
    ran-as it asked says c.in_ok-w.w _ refl (c.in_ok-w.ensures.reads file_of first) c.steps_made-steps.result (c.steps_made-steps.ensures _ (c.in_ok-w.ensures.steps file_of first)) c.in_ok-lives.lives
    (c.in_ok-lives.ensures.reads file_of then) c.in_ok-ran.ran.waves c.in_ok-ran.ran.journal _ c.in_ok-ran.ran.outcome _ c.in_ok-text.text.items
    c.new.ensures.journal c.new.ensures.conclusion _ c.new.ensures.text c.in_ok-ran.ensures.run c.in_ok-ran.ensures.small c.in_ok-text.ensures

pub returns-in_err-w-clause-missing : goal.returns-in_err-w-clause-missing
returns-in_err-w-clause-missing g c = λ file_of agree gone.
    passed-on c.from_residual.result c.in_err-w.field-0.0 _ c.from_residual.ensures.1 (inr (c.in_err-w.ensures.stop file_of agree))

pub returns-in_err-lives-clause-missing : goal.returns-in_err-lives-clause-missing
returns-in_err-lives-clause-missing g c = λ file_of agree gone.
    passed-on c.from_residual-in_err-lives.result c.in_err-lives.field-0.0 _ c.from_residual-in_err-lives.ensures.1
    (inl (stopped-by _ _ (c.in_err-lives.ensures.absent (c.in_ok-w.ensures.missing c.args.lives.now gone))))

pub returns-clause-missing : goal.returns-clause-missing
returns-clause-missing g c = λ file_of agree gone. absurd (not-stopped _ _ (c.in_ok-lives.ensures.absent (c.in_ok-w.ensures.missing c.args.lives.now gone)))

pub returns-in_err-w-clause-exceeds : goal.returns-in_err-w-clause-exceeds
returns-in_err-w-clause-exceeds g c = λ file_of agree known.
    passed-on c.from_residual.result c.in_err-w.field-0.0 _ c.from_residual.ensures.1 (c.in_err-w.ensures.exceeds file_of agree known)

pub returns-in_err-lives-clause-exceeds : goal.returns-in_err-lives-clause-exceeds
returns-in_err-lives-clause-exceeds g c = λ file_of agree known.
    absurd (not-exceeded _ _ _ (c.in_ok-w.ensures.steps file_of (agree-first _ _ _ file_of c.in_ok-w.ensures.grows c.in_err-lives.ensures.grows agree)) known)

pub returns-clause-exceeds : goal.returns-clause-exceeds
returns-clause-exceeds g c = λ file_of agree known.
    absurd (not-exceeded _ _ _ (c.in_ok-w.ensures.steps file_of (agree-first _ _ _ file_of c.in_ok-w.ensures.grows c.in_ok-lives.ensures.grows agree)) known)
