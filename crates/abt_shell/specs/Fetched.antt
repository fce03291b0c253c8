-- Why a call stops before its first write.
use Rattle.std.specs.Prelude.{◌≡◌, ℕ, Option, IfSome, ⊤}
use Rattle.abt_machine.specs.Words.{Text}
use Rattle.abt_report.specs.Journals.{IsNoJournalAt}
use Rattle.abt_workload.specs.Hints.{line_hint}
use Rattle.abt_shell.specs.Told.{Grew}
use Rattle.abt_shell.specs.declared.status.Stop.{Stop}
use Rattle.abt_shell.specs.declared.status.Stop.TheVariants.{BadWords, BadLine, CannotRead, OutOfMemory}
use Rattle.abt_shell.specs.declared.status.Wrong.{Wrong}
use Rattle.abt_shell.specs.declared.status.Wrong.TheVariants.{Workload, Journal, Lives}

-- The words say nothing, or they name files, and a line of one has this wrong, or one can't be read; faults are the counts of faults
-- of reading before and afterwards.
abbrev pub StopsFor : Type 0 → Type 0 → (ℕ → Wrong → Type 0) → ℕ × ℕ → Stop → Type 0
StopsFor SaysNothing NamesFiles IsBadLine faults BadWords = SaysNothing
StopsFor SaysNothing NamesFiles IsBadLine faults (BadLine line w) = IsBadLine line w
StopsFor SaysNothing NamesFiles IsBadLine faults CannotRead = NamesFiles × Grew faults
StopsFor SaysNothing NamesFiles IsBadLine faults OutOfMemory = ⊤

-- a file does not have what was to be read from it: a line has this wrong, or the bytes are not known
abbrev pub HasNot : (ℕ → Wrong → Type 0) → ℕ × ℕ → Stop → Type 0
HasNot = StopsFor ⊥ ⊤

-- the bytes of a file are not known
abbrev pub Unread : ℕ × ℕ → Stop → Type 0
Unread = HasNot (λ line w. ⊥)

-- the line keeps the bytes from being a journal's text, and this may be said further
abbrev pub IsNoJournalSo : Text → ℕ → Text → Type 0
IsNoJournalSo bytes line said = IsNoJournalAt bytes line × (said ≡ line_hint bytes line)

-- a line has this wrong, which keeps a file, by its bytes if they are observable, from being a journal's; line 0 says that they are too many
abbrev pub IsNoJournalLine : Option Text → ℕ → Wrong → Type 0
IsNoJournalLine told line (Workload f hint) = ⊥
IsNoJournalLine told line (Journal hint) = IfSome told (λ bytes. IsNoJournalSo bytes line hint.now)
IsNoJournalLine told line (Lives hint) = ⊥

-- why the file has no journal
abbrev pub HasNoJournal : Option Text → ℕ × ℕ → Stop → Type 0
HasNoJournal told = HasNot (IsNoJournalLine told)
