-- What the command of a call prints, by what it came to.
use Rattle.std.specs.Prelude.{◌≡◌, ◌+◌, ℕ, suc, ◌++◌, ◌∷◌, ◌⊎◌, if◌then◌else◌, Bool, true, List, [], Option, Some, None, codes, decimal, length}
use Rattle.abt_machine.specs.declared.events.Event.{Event}
use Rattle.abt_machine.specs.declared.events.Outcome.{Outcome}
use Rattle.abt_machine.specs.declared.events.Piece.{Piece}
use Rattle.abt_machine.specs.declared.workload.Parts.{Parts}
use Rattle.abt_machine.specs.Canonical.{op_words}
use Rattle.abt_machine.specs.Outcomes.{steps_in}
use Rattle.abt_machine.specs.Runs.{Run as IsRun, last_state}
use Rattle.abt_machine.specs.State.{State}
use Rattle.abt_machine.specs.Stored.{Stored}
use Rattle.abt_machine.specs.Texts.{journal_text, outcome_words, report_text, short_text}
use Rattle.abt_machine.specs.Words.{Text, ended, line_of}
use Rattle.abt_bounds.specs.Laws.{HasNoFree}
use Rattle.abt_check.specs.declared.verdict.Verdict.{Verdict}
use Rattle.abt_check.specs.declared.verdict.Verdict.TheVariants as verdict
use Rattle.abt_check.specs.Verdicts.{IsJudged, IsRunUpTo, IsStampedRun}
use Rattle.abt_drain.specs.declared.run.Run.{Run}
use Rattle.abt_drain.specs.Ends.{IsLeftOf}
use Rattle.abt_drain.specs.InRotation.{IsMadeInRotation}
use Rattle.abt_drain.specs.Looks.{EndsWith}
use Rattle.abt_drain.specs.Runs.{HasRun, IsRunOf}
use Rattle.abt_flow.specs.declared.confluence.Violation.{Violation}
use Rattle.abt_flow.specs.Confluent.{Confluent}
use Rattle.abt_flow.specs.Violations.{IsFirstViolation}
use Rattle.abt_flow.specs.Finishing.{IsOrderly}
use Rattle.abt_flow.specs.Flow.{IsFlow}
use Rattle.abt_generate.specs.Generated.{generated}
use Rattle.abt_report.specs.Journals.{IsTextOf}
use Rattle.abt_record.specs.Records.{IsKept}
use Rattle.abt_report.specs.Outputs.{outputs_text}
use Rattle.abt_report.specs.Pictures.{IsPictureOf}
use Rattle.abt_schedule.specs.Seeds.{IsSeeded}
use Rattle.abt_shell.specs.Outputs.{IsOutputOf}
use Rattle.abt_sizes.specs.Laws.{IsSmall}
use Rattle.abt_why.specs.Texts.{why_text}
use Rattle.abt_words.specs.declared.commands.Command.{Command}
use Rattle.abt_words.specs.declared.commands.Command.TheVariants as command
use Rattle.abt_words.specs.declared.commands.Schedule.{Schedule}
use Rattle.abt_words.specs.declared.commands.Schedule.TheVariants as schedule
use Rattle.abt_words.specs.declared.commands.Shows.{Shows}
use Rattle.abt_words.specs.declared.commands.Shows.TheVariants as show
use Rattle.abt_words.specs.Commands.{Says}
use Rattle.abt_words.specs.declared.versions.Program.TheVariants as program_of
use Rattle.abt_words.specs.Versions.{version_text}
use Rattle.abt_run.specs.Ends.{ShowsEnds}
use Rattle.abt_run.specs.Differing.{DifferAfter, expected_text, first_line, quoted}
use Rattle.abt_run.specs.Given.{Compares, ComparesOutput, Given, IsReadFrom}
use Rattle.abt_run.specs.Kept.{keeps, needs_journal}
use Rattle.abt_run.specs.Status.{help_text}
use Rattle.abt_run.specs.Steps.{LetsStreams, MayMake}
use Rattle.abt_run.specs.declared.keeping.Keep.{Keep}
use Rattle.abt_run.specs.declared.status.Conclusion.{Conclusion}
use Rattle.abt_run.specs.declared.status.Conclusion.TheVariants.{Ended, Judged, Ends, Followed, Strays, Belongs, Differs, Flows, NotConfluent, Undefined, Finishes, Sticks, GoesOn, Unexplored, Helps, NamesVersion}

-- Runs.

-- the command runs W: it is read from its file, or made of the number of units
abbrev pub IsFor : Command → Given → Parts → Type 0
IsFor (command.Run w) g W = IsReadFrom g w.file W
IsFor (command.SelfRun units) g W = W ≡ generated units
IsFor (command.Check w) g W = ⊥
IsFor (command.CheckOutput w) g W = ⊥
IsFor (command.Flow file) g W = ⊥
IsFor (command.Explore w) g W = ⊥
IsFor command.Help g W = ⊥
IsFor command.Version g W = ⊥

-- the journal is a run by this schedule that ended so. The stamps of a seeded run count its events; others are Lamport's
abbrev pub HasRunBy : Schedule → Parts → Stored → ℕ → List Event → Outcome → Type 0
HasRunBy schedule.Threads W Z n J o = HasRun W Z n J o
HasRunBy schedule.InTurn W Z n J o = HasRun W Z n J o
HasRunBy (schedule.Seed seed) W Z n J o = IsRunOf W Z n J o

-- it is the run of this seed; there is no other, if no order and no function is free
pub record IsOfSeed (W : Parts) (Z : Stored) (seed n : ℕ) (J : List Event) : Type 0 where
  pub seeded : IsSeeded W seed n J
  pub only : HasNoFree W Z → (K : List Event) → IsRun W Z K → IsSeeded W seed n K → K ≡ J

-- the streams took turns as the schedule says
abbrev pub TakesTurns : Schedule → Parts → Stored → ℕ → List Event → Type 0
TakesTurns schedule.Threads W Z n J = Unit {0}
TakesTurns schedule.InTurn W Z n J = IsMadeInRotation W Z n J
TakesTurns (schedule.Seed seed) W Z n J = IsOfSeed W Z seed n J

-- what a run leaves is of one journal whose streams took turns so
abbrev pub LeavesScheduled : Schedule → Parts → Stored → ℕ → Bool → Run → Type 0
LeavesScheduled s W Z n keeps left = IsLeftOf W keeps (λ J. HasRunBy s W Z n J left.outcome × TakesTurns s W Z n J) left

-- the schedule that a command's words ask for: threads, where none does
abbrev pub schedule_of : Command → Schedule
schedule_of (command.Run w) = w.schedule
schedule_of (command.SelfRun units) = schedule.Threads
schedule_of (command.Check w) = schedule.Threads
schedule_of (command.CheckOutput w) = schedule.Threads
schedule_of (command.Flow file) = schedule.Threads
schedule_of (command.Explore w) = schedule.Threads
schedule_of command.Help = schedule.Threads
schedule_of command.Version = schedule.Threads

-- what a command prints of a run of W, by its last state, its journal and its outcome: the journal, if it is asked for, the report, and
-- what units wait for, if that is asked for; or the short report
abbrev pub output_text : Parts → State → List Event → Outcome → Command → Text
output_text W S J o (command.Run w) = ((if w.journal then journal_text J else []) ++ report_text W S (steps_in J) o) ++ (if w.why then why_text W S else [])
output_text W S J o (command.SelfRun units) = short_text W S (steps_in J) o
output_text W S J o (command.Check w) = []
output_text W S J o (command.CheckOutput w) = []
output_text W S J o (command.Flow file) = []
output_text W S J o (command.Explore w) = []
output_text W S J o command.Help = []
output_text W S J o command.Version = []

-- J is the journal of a run that left this, which has it if it is needed
pub record IsShownIn (W : Parts) (needs : Bool) (J : List Event) (left : Run) : Type 0 where
  pub picture : IsPictureOf W J left.picture
  pub steps : left.steps ≡ steps_in J
  pub journal : needs ≡ true → left.journal ≡ Some J

-- the journal is a run of the workload of the words' command, ended so, and small, the text is its output, and the answer has it, if it is kept
pub record Ran (g : Given) (keep : Keep) (answered : Option (List Event)) (o : Outcome) (text : Text) : Type 0 where
  pub command : Command
  pub says : Says g.words command
  pub workload : Parts
  pub is : IsFor command g workload
  pub steps : ℕ
  pub may : MayMake command g steps
  pub journal : List Event
  pub run : HasRunBy (schedule_of command) workload g.stored steps journal o
  pub scheduled : TakesTurns (schedule_of command) workload g.stored steps journal
  pub small : IsSmall workload journal
  pub output : text ≡ output_text workload (last_state workload journal) journal o command
  pub kept : IsKept (keeps keep (needs_journal command)) journal answered

-- Verdicts.

abbrev pub verdict_text : Verdict → Text
verdict_text verdict.Run = codes "run\n"
verdict_text (verdict.Bad at) = codes "bad " ++ (decimal (suc at) ++ codes "\n")

-- how a journal ends, in words: it could go on, or ended so
abbrev pub end_words : Option Outcome → List Text
end_words None = codes "open" ∷ []
end_words (Some o) = outcome_words o

-- what is printed of a run whose end is asked for
abbrev pub end_text : Option Outcome → Text
end_text end = codes "run\n" ++ ended (line_of (end_words end))

-- the report of a run that was followed, by its last state, its journal and its outcome; it has none if it could go on
abbrev pub report_or_open : Parts → State → List Event → Option Outcome → Text
report_or_open W S J None = codes "open\n"
report_or_open W S J (Some o) = report_text W S (steps_in J) o

-- what is printed of it: that, and what units wait for, if that is asked for
abbrev pub followed_text : Parts → State → List Event → Option Outcome → Bool → Text
followed_text W S J end why = report_or_open W S J end ++ (if why then why_text W S else [])

-- the journal is a stamped run whose streams may make n steps each, and it ended so, or could go on
abbrev pub LeadsTo : Parts → Stored → ℕ → List Event → Option Outcome → Type 0
LeadsTo W Z n J end = IsStampedRun W Z J × EndsWith W n J end

-- what is shown of a journal of W, if its streams may make n steps each: the verdict; or the end, unless it is no run; or the report, by
-- the same rule
abbrev pub ShowsJudged : Shows → Parts → Stored → ℕ → List Event → Conclusion → Text → Type 0
ShowsJudged show.Verdict W Z n J c text = (v : Verdict) × (c ≡ Judged v) × IsJudged W Z J v × (text ≡ verdict_text v)
ShowsJudged show.End W Z n J c text =
    ((at : ℕ) × (c ≡ Judged (verdict.Bad at)) × IsRunUpTo W Z J at × (text ≡ verdict_text (verdict.Bad at)))
    ⊎ ((end : Option Outcome) × (c ≡ Ends end) × LeadsTo W Z n J end × (text ≡ end_text end))
ShowsJudged (show.Report why) W Z n J c text =
    ((at : ℕ) × (c ≡ Strays at) × IsRunUpTo W Z J at × (text ≡ verdict_text (verdict.Bad at)))
    ⊎ ((end : Option Outcome) × (c ≡ Followed end) × LeadsTo W Z n J end × (text ≡ followed_text W (last_state W J) J end why))

-- this is shown of the journal that the words name
pub record HasJudged (g : Given) (c : Conclusion) (text : Text) : Type 0 where
  pub workload : Parts
  pub journal : List Event
  pub compares : Compares g workload (IsTextOf journal)
  pub steps : ℕ
  pub lets : LetsStreams (g.file compares.asked.workload) None steps
  pub shown : ShowsJudged compares.asked.shows workload g.stored steps journal c text

-- Outputs.

-- the report that follows the journal of a run that ended so is compared with the one that is wanted
abbrev pub ComparesReports : Text → List Event → Text → Outcome → Conclusion → Text → Type 0
ComparesReports wanted J report o c text =
    ((c ≡ Belongs o) × (report ≡ wanted) × (text ≡ end_text (Some o)))
    ⊎ ((c ≡ Differs) × ((l : ℕ) × (expected found : Text) × DifferAfter l wanted report expected found × (text ≡ expected_text (suc (length J + l)) (quoted expected) found)))

-- what is shown of an output of W, which has this journal and then this report, if streams may make n steps each: where the journal is no
-- run; or the line at which it could go on; or that the report is the one that `run` prints, or how it differs
abbrev pub ShowsOutput : Bool → Parts → Stored → ℕ → List Event → Text → Conclusion → Text → Type 0
ShowsOutput why W Z n J report c text =
    ((at : ℕ) × (c ≡ Differs) × IsRunUpTo W Z J at × (text ≡ verdict_text (verdict.Bad at)))
    ⊎ (((c ≡ Differs) × LeadsTo W Z n J None × (text ≡ expected_text (suc (length J)) (codes "an event") (first_line report)))
    ⊎ ((o : Outcome) × LeadsTo W Z n J (Some o) × ComparesReports (followed_text W (last_state W J) J (Some o) why) J report o c text))

-- this is shown of the output that the words name
pub record HasJudgedOutput (g : Given) (c : Conclusion) (text : Text) : Type 0 where
  pub workload : Parts
  pub journal : List Event
  pub report : Text
  pub compares : ComparesOutput g workload (IsOutputOf journal report)
  pub steps : ℕ
  pub lets : LetsStreams (g.file compares.asked.workload) None steps
  pub shown : ShowsOutput compares.asked.why workload g.stored steps journal report c text

-- Flows.

-- the words ask for the flow of W
pub record AsksFlow (g : Given) (W : Parts) : Type 0 where
  pub file : Text
  pub says : Says g.words (command.Flow file)
  pub reads : IsReadFrom g file W

-- the text is that of these outputs, and has a last line if each run of the workload finishes
abbrev pub ShowsFlow : Parts → List (List Piece) → Text → Type 0
ShowsFlow W rows text = (IsOrderly W × (text ≡ outputs_text W rows ++ codes "finishes\n")) ⊎ ((IsOrderly W → ⊥) × (text ≡ outputs_text W rows))

-- the text is that of the flow
pub record HasFlow (g : Given) (text : Text) : Type 0 where
  pub workload : Parts
  pub asks : AsksFlow g workload
  pub confluent : Confluent workload
  pub rows : List (List Piece)
  pub flow : IsFlow workload g.stored.returns rows
  pub output : ShowsFlow workload rows text

-- an operation by which a workload is not confluent, as its line in the workload's text has it
abbrev pub violation_line : Parts → Violation → Text
violation_line W v =
    (codes "unit " ++ decimal v.unit.0) ++ ((codes " operation " ++ decimal v.position) ++ (codes ": " ++ ended (line_of (op_words W v.operation))))

abbrev pub violation_text : Parts → Violation → Text
violation_text W v = codes "not confluent\n" ++ violation_line W v

-- the workload is not confluent, and the text names the first operation by which it is not
pub record IsNotConfluent (g : Given) (text : Text) : Type 0 where
  pub workload : Parts
  pub asks : AsksFlow g workload
  pub other : Confluent workload → ⊥
  pub violation : Violation
  pub first : IsFirstViolation workload violation
  pub output : text ≡ violation_text workload violation

-- the workload is confluent, and has no flow
pub record HasNoFlow (g : Given) : Type 0 where
  pub workload : Parts
  pub asks : AsksFlow g workload
  pub confluent : Confluent workload
  pub none : (rows : List (List Piece)) → IsFlow workload g.stored.returns rows → ⊥

-- All commands.

-- the command was carried out and came to this, the call answers this journal or none, and the command prints the text
abbrev pub Prints : Given → Keep → Conclusion → Option (List Event) → Text → Type 0
Prints g keep (Ended o) answered text = Ran g keep answered o text
Prints g keep (Judged v) answered text = HasJudged g (Judged v) text × (answered ≡ None)
Prints g keep (Ends end) answered text = HasJudged g (Ends end) text × (answered ≡ None)
Prints g keep (Followed end) answered text = HasJudged g (Followed end) text × (answered ≡ None)
Prints g keep (Strays at) answered text = HasJudged g (Strays at) text × (answered ≡ None)
Prints g keep (Belongs o) answered text = HasJudgedOutput g (Belongs o) text × (answered ≡ None)
Prints g keep Differs answered text = HasJudgedOutput g Differs text × (answered ≡ None)
Prints g keep Flows answered text = HasFlow g text × (answered ≡ None)
Prints g keep NotConfluent answered text = IsNotConfluent g text × (answered ≡ None)
Prints g keep Undefined answered text = HasNoFlow g × (text ≡ codes "undefined\n") × (answered ≡ None)
Prints g keep Finishes answered text = ShowsEnds g Finishes text × (answered ≡ None)
Prints g keep Sticks answered text = ShowsEnds g Sticks text × (answered ≡ None)
Prints g keep GoesOn answered text = ShowsEnds g GoesOn text × (answered ≡ None)
Prints g keep Unexplored answered text = ShowsEnds g Unexplored text × (answered ≡ None)
Prints g keep Helps answered text = Says g.words command.Help × (text ≡ help_text) × (answered ≡ None)
Prints g keep NamesVersion answered text = Says g.words command.Version × (text ≡ version_text program_of.Run) × (answered ≡ None)
