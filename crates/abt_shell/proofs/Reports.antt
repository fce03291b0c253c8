-- What keeps the bytes of a file from being an output, by what stands before the report.
use Rattle.std.proofs.Common.{◌≡◌, ◌<◌, ◌≤◌, ◌-◌, ℕ, zero, suc, length, min, subst, arith}
use Rattle.std.proofs.lemmas.List.{length-take}
use Rattle.abt_machine.specs.Words.{Text}
use Rattle.abt_report.specs.declared.text_fault.TextFault.{TextFault}
use Rattle.abt_report.specs.declared.text_fault.TextFault.TheVariants.{Bad}
use Rattle.abt_report.specs.Journals.{IsCause, IsNoJournalAt, journal_limit}
use Rattle.abt_workload.specs.Hints.{line_hint}
use Rattle.abt_shell.specs.Outputs.{IsNoOutputSo, journal_part, report_part}
use Rattle.abt_shell.proofs.Fetched.{wrong-line}

-- what stands before the report is no longer than the bytes
pub part-short : (bytes : Text) → length bytes ≤ journal_limit → length (journal_part bytes) ≤ journal_limit
part-short bytes short = let n : length (journal_part bytes) ≡ min (length bytes - length (report_part bytes)) (length bytes) = length-take (length bytes - length (report_part bytes)) bytes in omega (arith, n, short)

-- its line that is no event's
by-line : (bytes : Text) (l : ℕ) (said : Text) → length bytes ≤ journal_limit → IsNoJournalAt (journal_part bytes) l → said ≡ line_hint (journal_part bytes) l → IsNoOutputSo bytes l said
by-line bytes zero said short long hint = absurd (let most = part-short bytes short in let more : journal_limit < length (journal_part bytes) = long in omega (arith, most, more))
by-line bytes (suc l) said short bad hint = (short, (bad, hint))

pub no-output-line : (bytes part said : Text) (cause : TextFault) (line l : ℕ) → part ≡ journal_part bytes → length bytes ≤ journal_limit → cause ≡ Bad line → l ≡ line → IsCause part cause → said ≡ line_hint part l
    → IsNoOutputSo bytes l said
no-output-line bytes part said cause line l is short bad same why hint =
    by-line bytes l said short (wrong-line (journal_part bytes) cause line l (part-short bytes short) bad same (subst (λ (t : Text). IsCause t cause) is why)) (subst (λ (t : Text). said ≡ line_hint t l) is hint)
