use Rattle.std.proofs.Common.{◌≡◌, ◌<◌, ◌≤◌, ◌∙◌, [], length, refl, rules}
use Rattle.abt_report.specs.Journals.{journal_limit}
use Rattle.abt_shell.specs.Outputs.{IsNoOutputSo, IsOutputOf, journal_part, report_part}
use Rattle.abt_shell.proofs.Fetched.{of-long, of-whole}
use Rattle.abt_shell.proofs.Reports.{no-output-line, part-short}
use Rattle.abt_shell.proofs.outputs.fetch_output.Goals as goal

pub returns-then-len-gt-JOURNAL_LIMIT-clause-stop : goal.returns-then-len-gt-JOURNAL_LIMIT-clause-stop
returns-then-len-gt-JOURNAL_LIMIT-clause-stop g c = λ file_of agree.
    let long : journal_limit < length c.in_ok-bytes.bytes.items = search rules in
    of-long journal_limit (λ bytes. IsNoOutputSo bytes 0 []) _ c.in_ok-bytes.bytes.items (c.in_ok-bytes.ensures.bytes file_of agree) long (λ xs more. (more, refl))

pub returns-in-Ok-clause-reads : goal.returns-in-Ok-clause-reads
returns-in-Ok-clause-reads g c = λ file_of agree.
    let short : length c.in_ok-bytes.bytes.items ≤ journal_limit = search rules in
    let part : c.parts.result.0.now ≡ journal_part c.in_ok-bytes.bytes.items = rw c.deref.ensures.value at c.parts.ensures.journal in
    let rest : c.parts.result.1.now ≡ report_part c.in_ok-bytes.bytes.items = rw c.deref.ensures.value at c.parts.ensures.report in
    of-whole journal_limit (IsOutputOf c.in-Ok.journal c.in_ok-report-in-Ok.report.items) _ c.in_ok-bytes.bytes.items (c.in_ok-bytes.ensures.bytes file_of agree) short
    (record {
      journal = record { events = c.in-Ok.ensures.events; text = c.in-Ok.ensures.ok ∙ part; short = part-short c.in_ok-bytes.bytes.items short };
      rest = c.in_ok-report-in-Ok.ensures.items ∙ rest;
      short = short;
    })

pub returns-in-Err-Bad-clause-stop : goal.returns-in-Err-Bad-clause-stop
returns-in-Err-Bad-clause-stop g c = λ file_of agree.
    let short : length c.in_ok-bytes.bytes.items ≤ journal_limit = search rules in
    let part : c.parts.result.0.now ≡ journal_part c.in_ok-bytes.bytes.items = rw c.deref.ensures.value at c.parts.ensures.journal in
    of-whole journal_limit (λ bytes. IsNoOutputSo bytes _ _) _ c.in_ok-bytes.bytes.items (c.in_ok-bytes.ensures.bytes file_of agree) short
    (no-output-line c.in_ok-bytes.bytes.items c.parts.result.0.now _ c.in-Err-Bad.field-0 c.in-Err-Bad.line _ part short c.in-Err-Bad.field-0-is c.in-Err-Bad.line-is c.in-Err-Bad.ensures.cause c.line_hint.ensures)
