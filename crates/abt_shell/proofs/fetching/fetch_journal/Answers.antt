use Rattle.std.proofs.Common.{◌<◌, ◌≤◌, [], length, refl, rules}
use Rattle.abt_report.specs.Journals.{IsTextOf, journal_limit}
use Rattle.abt_shell.specs.Fetched.{IsNoJournalSo}
use Rattle.abt_shell.proofs.Fetched.{of-long, of-whole, wrong-line}
use Rattle.abt_shell.proofs.fetching.fetch_journal.Goals as goal

pub returns-then-len-gt-JOURNAL_LIMIT-clause-stop : goal.returns-then-len-gt-JOURNAL_LIMIT-clause-stop
returns-then-len-gt-JOURNAL_LIMIT-clause-stop g c = λ file_of agree.
    let long : journal_limit < length c.in_ok-bytes.bytes.items = search rules in
    of-long journal_limit (λ bytes. IsNoJournalSo bytes 0 []) _ c.in_ok-bytes.bytes.items (c.in_ok-bytes.ensures.bytes file_of agree) long (λ xs more. (more, refl))

pub returns-in-Ok-clause-reads : goal.returns-in-Ok-clause-reads
returns-in-Ok-clause-reads g c = λ file_of agree.
    let short : length c.in_ok-bytes.bytes.items ≤ journal_limit = search rules in
    of-whole journal_limit (IsTextOf c.in-Ok.journal) _ c.in_ok-bytes.bytes.items (c.in_ok-bytes.ensures.bytes file_of agree) short
    (record { events = c.in-Ok.ensures.events; text = rw c.deref.ensures.value at c.in-Ok.ensures.ok; short = short })

pub returns-in-Err-Bad-clause-stop : goal.returns-in-Err-Bad-clause-stop
returns-in-Err-Bad-clause-stop g c = λ file_of agree.
    let short : length c.in_ok-bytes.bytes.items ≤ journal_limit = search rules in
    of-whole journal_limit (λ bytes. IsNoJournalSo bytes _ _) _ c.in_ok-bytes.bytes.items (c.in_ok-bytes.ensures.bytes file_of agree) short
    (wrong-line c.in_ok-bytes.bytes.items c.in-Err-Bad.field-0 c.in-Err-Bad.line _ short c.in-Err-Bad.field-0-is c.in-Err-Bad.line-is (rw c.deref.ensures.value at c.in-Err-Bad.ensures.cause), rw c.deref-in-Err-Bad.ensures.value at c.line_hint.ensures)
