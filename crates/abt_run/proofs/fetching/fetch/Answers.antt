use Rattle.std.proofs.Common.{ℕ, Some}
use Rattle.std.specs.Prelude.{IfSome}
use Rattle.abt_machine.specs.Grammar.{Reads}
use Rattle.abt_shell.proofs.Calls.{if-err, if-ok}
use Rattle.abt_run.specs.Prepared.{HasNoWorkload}
use Rattle.abt_run.proofs.Texts.{told-reads, told-stops}
use Rattle.abt_run.proofs.fetching.fetch.Goals as goal

pub returns-clause-reads : goal.returns-clause-reads
returns-clause-reads g c = λ file_of agree.
    if-ok c.workload_in.result (Reads c.in_ok-bytes.bytes.items) (λ w. IfSome (file_of c.args.file.now) (λ bytes. Reads bytes w))
    (λ w reads. told-reads _ c.in_ok-bytes.bytes.items w (rw c.text_limit.ensures at (c.in_ok-bytes.ensures.bytes file_of agree)) reads) (rw c.deref.ensures.value at c.workload_in.ensures.reads)

pub returns-clause-stop : goal.returns-clause-stop
returns-clause-stop g c = λ file_of agree.
    if-err c.workload_in.result (λ stop. (faults : ℕ × ℕ) → HasNoWorkload (Some c.in_ok-bytes.bytes.items) faults stop) (HasNoWorkload (file_of c.args.file.now) _)
    (λ stop none. told-stops _ c.in_ok-bytes.bytes.items _ stop (rw c.text_limit.ensures at (c.in_ok-bytes.ensures.bytes file_of agree)) (none _))
    (rw c.deref.ensures.value at c.workload_in.ensures.stop)
