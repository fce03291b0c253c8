-- From what was read of a file to why the call stops.
use Rattle.std.proofs.Common.{◌≡◌, ◌≤◌, ℕ, List, Option, Some, subst}
use Rattle.abt_machine.specs.declared.workload.Parts.{Parts}
use Rattle.abt_machine.specs.Words.{Text}
use Rattle.abt_run.specs.Prepared.{HasNoWorkload, IsNoWorkload}
use Rattle.abt_shell.specs.Fetched.{HasNoJournal, IsNoJournalLine}
use Rattle.abt_shell.specs.declared.status.Stop.{Stop}
use Rattle.abt_shell.specs.declared.status.Wrong.{Wrong}
use Rattle.abt_shell.specs.declared.status.Wrong.TheVariants.{Workload, Journal, Lives}
use Rattle.abt_shell.proofs.Fetched.{grew-later, stops-file}
use Rattle.abt_view.specs.Call.{IsBadLine, NamesFile, ReadsNames, StopsView}
use Rattle.abt_view.specs.Views.{Asks, AsksNothing, Request}

-- why the workload's file has no workload is why the call stops
pub no-workload-stops : (words : List Text) (file_of : Text → Option Text) (q : Request) (file : Text) → Asks words q → q.workload ≡ Some file → (s : Stop) (faults : ℕ × ℕ)
    → HasNoWorkload (file_of file) faults s → StopsView words file_of faults s
no-workload-stops words file_of q file asks names s faults =
    stops-file (AsksNothing words) (NamesFile words) (IsNoWorkload (file_of file)) (IsBadLine words file_of) faults faults (record { request = q; asks = asks }) bad (λ grew. grew) s where
      bad : (line : ℕ) (w : Wrong) → IsNoWorkload (file_of file) line w → IsBadLine words file_of line w
      bad line (Workload f said) h = record { request = q; file = file; asks = asks; names = names; is = h }
      bad line (Journal said) h = absurd h
      bad line (Lives said) h = absurd h

-- and so is why the journal's file, which is read after it, has no journal
pub no-journal-stops : (words : List Text) (file_of : Text → Option Text) (q : Request) (names : Option Parts) (told : Option Text) (a b c : ℕ) → Asks words q → ReadsNames q.workload file_of names
    → told ≡ file_of q.journal → a ≤ b → b ≤ c → (s : Stop) → HasNoJournal told (b, c) s → StopsView words file_of (a, c) s
no-journal-stops words file_of q names told a b c asks reads same first second s =
    stops-file (AsksNothing words) (NamesFile words) (IsNoJournalLine told) (IsBadLine words file_of) (b, c) (a, c) (record { request = q; asks = asks }) bad (grew-later a b c first second) s where
      bad : (line : ℕ) (w : Wrong) → IsNoJournalLine told line w → IsBadLine words file_of line w
      bad line (Workload f said) h = absurd h
      bad line (Journal said) h =
          record { request = q; names = names; asks = asks; reads = reads; is = subst (λ (o : Option Text). IsNoJournalLine o line (Journal said)) same h }
      bad line (Lives said) h = absurd h
