-- What a call of the program reads and writes, and what each exit status says about that.
use Rattle.std.specs.Prelude.{◌≡◌, ◌≢◌, ◌⊎◌, ℕ, List, [], Option, Some, None, IfSome, codes}
use Rattle.std.specs.List.{All}
use Rattle.abt_check.specs.Pieces.{ArePieces}
use Rattle.abt_machine.specs.declared.events.Event.{Event}
use Rattle.abt_machine.specs.declared.events.Piece.{Piece}
use Rattle.abt_machine.specs.declared.workload.Parts.{Parts}
use Rattle.abt_machine.specs.Grammar.{Reads}
use Rattle.abt_machine.specs.Words.{Text}
use Rattle.abt_report.specs.Journals.{IsEvent, IsTextOf}
use Rattle.abt_run.specs.Prepared.{LacksSecond}
use Rattle.abt_shell.specs.declared.status.Stop.{Stop}
use Rattle.abt_shell.specs.declared.status.Stop.TheVariants.{CannotRead}
use Rattle.abt_shell.specs.declared.status.Wrong.{Wrong}
use Rattle.abt_shell.specs.declared.status.Wrong.TheVariants.{Workload, Journal, Lives}
use Rattle.abt_shell.specs.Calls.{EndsBy, HasReadFault, Left, Program}
use Rattle.abt_shell.specs.Fetched.{IsNoJournalSo, StopsFor}
use Rattle.abt_shell.specs.More.{Adds}
use Rattle.abt_shell.specs.Told.{Grew}
use Rattle.abt_workload.specs.Hints.{RefusesSo}
use Rattle.abt_view.specs.declared.views.Conclusion.{Conclusion}
use Rattle.abt_view.specs.declared.views.Conclusion.TheVariants.{Shown, TooLarge, Told}
use Rattle.abt_view.specs.Views.{Asks, AsksNothing, IsAbout, Request, conclusion_of, number_of_conclusion, view_text}

-- the words, the bytes of each file if they are observable, of which names it is observable that no file has them, and what the call left
pub record Call : Type 1 where
  pub words : List Text
  pub file : Text → Option Text
  pub absent : Text → Type 0
  pub left : Left

-- the words ask for a view of a file
pub record NamesFile (words : List Text) : Type 0 where
  pub request : Request
  pub asks : Asks words request

-- they ask for a view with this file
abbrev pub IsNamed : List Text → Text → Type 0
IsNamed words file = (q : Request) × Asks words q × ((q.workload ≡ Some file) ⊎ (file ≡ q.journal))

-- Files.

-- the workload of the file that is named, if one is: the bytes of the file, if they are observable, are its text
abbrev pub ReadsNames : Option Text → (Text → Option Text) → Option Parts → Type 0
ReadsNames None file_of names = names ≡ None
ReadsNames (Some file) file_of None = ⊥
ReadsNames (Some file) file_of (Some W) = IfSome (file_of file) (λ bytes. Reads bytes W)

-- and they are observable
abbrev pub TellsNames : Option Text → (Text → Option Text) → Option Parts → Type 0
TellsNames None file_of names = names ≡ None
TellsNames (Some file) file_of None = ⊥
TellsNames (Some file) file_of (Some W) = (bytes : Text) × (file_of file ≡ Some bytes) × Reads bytes W

-- the words name a workload's file, and this holds of its bytes, if they are observable
pub record NamesWorkload (words : List Text) (file_of : Text → Option Text) (Is : Text → Type 0) : Type 0 where
  pub request : Request
  pub file : Text
  pub asks : Asks words request
  pub names : request.workload ≡ Some file
  pub is : IfSome (file_of file) Is

-- the words name a workload's file, or none, and a journal's file, of whose bytes this holds, if they are observable
pub record NamesJournal (words : List Text) (file_of : Text → Option Text) (Is : Text → Type 0) : Type 0 where
  pub request : Request
  pub names : Option Parts
  pub asks : Asks words request
  pub reads : ReadsNames request.workload file_of names
  pub is : IfSome (file_of request.journal) Is

-- the pieces are what the first events of the journal put out, as many as are a run of the workload with some stored orders and
-- functions; none if there is no workload
abbrev pub PutOut : Option Parts → List Event → List (Option Piece) → Type 0
PutOut None J pieces = pieces ≡ []
PutOut (Some W) J pieces = ArePieces W J pieces

-- the text is that view of the journal in a file, whose numbers are within their types, with the operations of the workload, if one is
-- named, and the call comes to this conclusion of it
pub record IsFileView (q : Request) (file_of : Text → Option Text) (conclusion : Conclusion) (text : Text) : Type 0 where
  pub names : Option Parts
  pub journal : List Event
  pub events : All IsEvent journal
  pub workload : ReadsNames q.workload file_of names
  pub reads : IfSome (file_of q.journal) (IsTextOf journal)
  pub pieces : List (Option Piece)
  pub put_out : PutOut names journal pieces
  pub shows : text ≡ view_text q.view names pieces journal
  pub concludes : conclusion ≡ conclusion_of q.view journal

-- the text is the view that the words ask for, and the call comes to this conclusion of it
pub record IsViewOf (words : List Text) (file_of : Text → Option Text) (conclusion : Conclusion) (text : Text) : Type 0 where
  pub request : Request
  pub asks : Asks words request
  pub shown : IsFileView request file_of conclusion text

-- what a call prints that comes to this conclusion
abbrev pub Prints : List Text → (Text → Option Text) → Conclusion → Text → Type 0
Prints words file_of Shown text = IsViewOf words file_of Shown text
Prints words file_of TooLarge text = IsViewOf words file_of TooLarge text
Prints words file_of Told text = IsAbout words text

-- Why a call stops before its first write.

-- a line of a file that the words name has this fault; the workload is read before the journal
abbrev pub IsBadLine : List Text → (Text → Option Text) → ℕ → Wrong → Type 0
IsBadLine words file_of line (Workload f said) = NamesWorkload words file_of (λ bytes. RefusesSo bytes line f said.now)
IsBadLine words file_of line (Journal said) = NamesJournal words file_of (λ bytes. IsNoJournalSo bytes line said.now)
IsBadLine words file_of line (Lives said) = ⊥

-- why the call stops, by the words, the files, and the count of read faults before and afterwards
abbrev pub StopsView : List Text → (Text → Option Text) → ℕ × ℕ → Stop → Type 0
StopsView words file_of = StopsFor (AsksNothing words) (NamesFile words) (IsBadLine words file_of)

-- a journal cannot be read, or before it the workload that is named was refused or could not be read
abbrev pub LacksJournal : Option Text → (Text → Option Text) → ℕ × ℕ → Stop → Type 0
LacksJournal None file_of faults stop = stop ≡ CannotRead
LacksJournal (Some workload) file_of faults stop = LacksSecond (file_of workload) faults stop

-- What each status says.

-- how a view is asked for
abbrev pub usage : Text
usage = codes "abtview svg|trace JOURNAL [WORKLOAD]\n"

-- the program: each status says what `Wrote`, `WrotePrefix` or `StoppedBy` of abt_shell states
abbrev pub program : Call → Program Conclusion
program c = record {
  name = codes "abtview";
  number = number_of_conclusion;
  Prints = Prints c.words c.file;
  Stops = StopsView c.words c.file c.left.read_faults;
  Adds = Adds usage (IsNamed c.words);
}

-- if the words ask for the view of a file whose bytes are a journal's text, the workload is known if they name one, and no fault of reading
-- or writing comes, it is written, and the status is 8 if the words ask for a picture and the journal is too large to be drawn, and else 0
abbrev pub IsComplete : ℕ → Call → Type 0
IsComplete n c = (q : Request) (names : Option Parts) (bytes : Text) (J : List Event) → Asks c.words q → TellsNames q.workload c.file names
    → c.file q.journal ≡ Some bytes → IsTextOf J bytes → (Grew c.left.read_faults → ⊥) → (Grew c.left.out_faults → ⊥)
    → (n ≡ number_of_conclusion (conclusion_of q.view J)) ⊎ (n ≡ 7)

-- and so is what the program says of itself, if the words ask for that
abbrev pub TellsAbout : ℕ → Call → Type 0
TellsAbout n c = (text : Text) → IsAbout c.words text → (Grew c.left.out_faults → ⊥) → (n ≡ 0) ⊎ (n ≡ 7)

-- if they name a workload's file whose bytes are no workload's text, and no fault of reading comes, the status is 3
abbrev pub RefusesWorkloads : ℕ → Call → Type 0
RefusesWorkloads n c = (q : Request) (file bytes : Text) → Asks c.words q → q.workload ≡ Some file → c.file file ≡ Some bytes
    → ((W : Parts) → Reads bytes W → ⊥) → (Grew c.left.read_faults → ⊥) → (n ≡ 3) ⊎ (n ≡ 7)

-- and so it is if they name a file whose bytes are the text of no journal, and the workload is known if they name one
abbrev pub RefusesTexts : ℕ → Call → Type 0
RefusesTexts n c = (q : Request) (names : Option Parts) (bytes : Text) → Asks c.words q → TellsNames q.workload c.file names
    → c.file q.journal ≡ Some bytes → ((J : List Event) → IsTextOf J bytes → ⊥) → (Grew c.left.read_faults → ⊥) → (n ≡ 3) ⊎ (n ≡ 7)

-- if no file has the name of the workload, which is observable, it cannot be read
abbrev pub MissesWorkloads : ℕ → Call → Type 0
MissesWorkloads n c = (q : Request) (file : Text) → Asks c.words q → q.workload ≡ Some file → c.absent file → (n ≡ 5) ⊎ (n ≡ 7)

-- nor can the journal, if no file has its name, which is observable, and the workload is known if the words name one
abbrev pub MissesFiles : ℕ → Call → Type 0
MissesFiles n c = (q : Request) (names : Option Parts) → Asks c.words q → TellsNames q.workload c.file names → c.absent q.journal → (n ≡ 5) ⊎ (n ≡ 7)

-- if the words ask for nothing, they are refused
abbrev pub RefusesWords : ℕ → Call → Type 0
RefusesWords n c = AsksNothing c.words → (n ≡ 2) ⊎ (n ≡ 7)

-- the exit status of a call has its cause, and the status comes if its cause holds
pub record IsAnswered (n : ℕ) (c : Call) : Type 0 where
  pub cause : EndsBy (program c) c.left n
  pub complete : IsComplete n c
  pub about : TellsAbout n c
  pub workloads : RefusesWorkloads n c
  pub texts : RefusesTexts n c
  pub words : RefusesWords n c
  pub missing : MissesWorkloads n c
  pub absent : MissesFiles n c
  pub reads : (Grew c.left.read_faults → ⊥) → n ≢ 5
  pub faulty : HasReadFault c.left → (n ≡ 5) ⊎ (n ≡ 7)
  pub writes : (Grew c.left.out_faults → ⊥) → n ≢ 6
