-- Bytes of files that are too many, or have a bad line.
use Rattle.std.proofs.Common.{◌≡◌, ◌<◌, ◌≤◌, ℕ, zero, suc, List, length, arith}
use Rattle.abt_machine.specs.declared.events.Event.{Event}
use Rattle.abt_machine.specs.Words.{Text}
use Rattle.abt_report.specs.declared.text_fault.TextFault.TheVariants.{Bad}
use Rattle.abt_report.specs.Journals.{IsBadAt, IsCause, IsNoJournalAt, IsTextOf, journal_limit}

-- lines are counted from 1
no-line-zero : (bytes : Text) → IsBadAt bytes 0 → ⊥
no-line-zero bytes h = let line : suc (length h.0) ≡ 0 = h.2.line in absurd (omega arith)

-- why bytes were not read keeps a file of that length from being a journal's text
pub bad-line : (bytes : Text) (l : ℕ) → length bytes ≤ journal_limit → IsCause bytes (Bad l) → IsNoJournalAt bytes l
bad-line bytes zero short h = absurd (no-line-zero bytes h.0)
bad-line bytes (suc l) short h = (short, h.0, h.1)

-- a journal's text has no such line
pub not-both : (J : List Event) (bytes : Text) (l : ℕ) → IsTextOf J bytes → IsNoJournalAt bytes l → ⊥
not-both J bytes zero is long = let few : length bytes ≤ journal_limit = is.short in let many : journal_limit < length bytes = long in absurd (omega arith)
not-both J bytes (suc l) is bad = bad.2 J is.events is.text
