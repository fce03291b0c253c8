-- Outputs of runs in files: a journal, and a report after it.
use Rattle.std.specs.Prelude.{◌≡◌, ◌<◌, ◌≤◌, ◌-◌, ◌==◌, ◌&&◌, ℕ, zero, suc, Bool, true, not, List, [], ◌∷◌, Option, IfSome, if◌then◌else◌, length, take}
use Rattle.std.specs.Char.{is_ascii_digit}
use Rattle.abt_machine.specs.declared.events.Event.{Event}
use Rattle.abt_machine.specs.Words.{Text}
use Rattle.abt_report.specs.Journals.{IsTextOf, journal_limit}
use Rattle.abt_shell.specs.Fetched.{HasNot, IsNoJournalSo}
use Rattle.abt_shell.specs.declared.status.Stop.{Stop}
use Rattle.abt_shell.specs.declared.status.Wrong.{Wrong}
use Rattle.abt_shell.specs.declared.status.Wrong.TheVariants.{Workload, Journal, Lives}

-- Each line of an event begins with a digit, and the first line of a report does not.

-- what a text has from its first line on that does not begin with a digit; `begins` says whether a line begins here
abbrev pub report_from : Bool → Text → Text
report_from begins [] = []
report_from begins (b ∷ bs) = if begins && not (is_ascii_digit b) then b ∷ bs else report_from (b == 10) bs

-- the report in an output
abbrev pub report_part : Text → Text
report_part output = report_from true output

-- and what stands before it
abbrev pub journal_part : Text → Text
journal_part output = take (length output - length (report_part output)) output

-- the bytes of a file are an output: the journal's text, and then this report
pub record IsOutputOf (J : List Event) (report bytes : Text) : Type 0 where
  pub journal : IsTextOf J (journal_part bytes)
  pub rest : report ≡ report_part bytes
  pub short : length bytes ≤ journal_limit

-- the line keeps what stands before the report from being a journal's text, and this may be said further; 0 says that the bytes are too many
abbrev pub IsNoOutputSo : Text → ℕ → Text → Type 0
IsNoOutputSo bytes zero said = (journal_limit < length bytes) × (said ≡ [])
IsNoOutputSo bytes (suc l) said = (length bytes ≤ journal_limit) × IsNoJournalSo (journal_part bytes) (suc l) said

-- a line has this wrong, which keeps a file, by its bytes if they are observable, from being an output
abbrev pub IsNoOutputLine : Option Text → ℕ → Wrong → Type 0
IsNoOutputLine told line (Workload f hint) = ⊥
IsNoOutputLine told line (Journal hint) = IfSome told (λ bytes. IsNoOutputSo bytes line hint.now)
IsNoOutputLine told line (Lives hint) = ⊥

-- why the file has no output
abbrev pub HasNoOutput : Option Text → ℕ × ℕ → Stop → Type 0
HasNoOutput told = HasNot (IsNoOutputLine told)
