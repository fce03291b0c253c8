use Rattle.abt_shell.proofs.Fetched.{passed, passed-on}
use Rattle.abt_run.proofs.Stepping.{no-workload-no-run, not-exceeded, told-exceeds, told-lets, unread-no-line, unread-no-run}
use Rattle.abt_run.proofs.Texts.{told-reads, told-stops}
use Rattle.abt_run.proofs.fetching.fetch_run.Goals as goal

pub returns-in_err-bytes-clause-stop : goal.returns-in_err-bytes-clause-stop
returns-in_err-bytes-clause-stop g c = λ file_of agree.
    passed c.from_residual.result c.in_err-bytes.field-0.0 _ c.from_residual.ensures.1 (unread-no-run _ _ _ c.in_err-bytes.field-0.0 c.in_err-bytes.ensures.stop)

pub returns-in_err-bytes-clause-exceeds : goal.returns-in_err-bytes-clause-exceeds
returns-in_err-bytes-clause-exceeds g c = λ file_of agree known.
    passed-on c.from_residual.result c.in_err-bytes.field-0.0 _ c.from_residual.ensures.1 (unread-no-line _ c.in_err-bytes.field-0.0 c.in_err-bytes.ensures.stop)

pub returns-in_default-clause-stop : goal.returns-in_default-clause-stop
returns-in_default-clause-stop g c = λ file_of agree.
    told-exceeds _ c.in_ok-bytes.bytes.items _ (rw c.text_limit.ensures at (c.in_ok-bytes.ensures.bytes file_of agree)) c.deref.ensures.value _ c.format_of.ensures c.args.asked c.in_default.ensures

pub returns-in_err-w-clause-stop : goal.returns-in_err-w-clause-stop
returns-in_err-w-clause-stop g c = λ file_of agree.
    passed c.from_residual-in_err-w.result c.in_err-w.field-0.0 _ c.from_residual-in_err-w.ensures.1
    (no-workload-no-run _ _ _ c.in_err-w.field-0.0
    (told-stops _ c.in_ok-bytes.bytes.items _ c.in_err-w.field-0.0 (rw c.text_limit.ensures at (c.in_ok-bytes.ensures.bytes file_of agree)) (rw c.deref-2.ensures.value at c.in_err-w.ensures.stop _)))

pub returns-in_err-w-clause-exceeds : goal.returns-in_err-w-clause-exceeds
returns-in_err-w-clause-exceeds g c = λ file_of agree known. absurd (not-exceeded _ c.args.asked c.in-Some.steps
    (told-lets _ c.in_ok-bytes.bytes.items _ (rw c.text_limit.ensures at
    (c.in_ok-bytes.ensures.bytes file_of agree)) c.deref.ensures.value _ c.format_of.ensures c.args.asked c.in-Some.steps c.in-Some.ensures) known)

pub returns-clause-reads : goal.returns-clause-reads
returns-clause-reads g c = λ file_of agree.
    told-reads _ c.in_ok-bytes.bytes.items c.in_ok-w.w (rw c.text_limit.ensures at (c.in_ok-bytes.ensures.bytes file_of agree)) (rw c.deref-2.ensures.value at c.in_ok-w.ensures.reads)

pub returns-clause-steps : goal.returns-clause-steps
returns-clause-steps g c = λ file_of agree.
    told-lets _ c.in_ok-bytes.bytes.items _ (rw c.text_limit.ensures at
    (c.in_ok-bytes.ensures.bytes file_of agree)) c.deref.ensures.value _ c.format_of.ensures c.args.asked c.in-Some.steps c.in-Some.ensures

pub returns-clause-exceeds : goal.returns-clause-exceeds
returns-clause-exceeds g c = λ file_of agree known. absurd (not-exceeded _ c.args.asked c.in-Some.steps
    (told-lets _ c.in_ok-bytes.bytes.items _ (rw c.text_limit.ensures at
    (c.in_ok-bytes.ensures.bytes file_of agree)) c.deref.ensures.value _ c.format_of.ensures c.args.asked c.in-Some.steps c.in-Some.ensures) known)
