-- What each status says about what a call of the program left, and when it comes.
use Rattle.std.specs.Prelude.{◌≡◌, ◌≢◌, ◌≤◌, ◌⊎◌, ◌++◌, ℕ, Bool, List, Option, Some, None, length}
use Rattle.abt_machine.specs.declared.events.Event.{Event}
use Rattle.abt_machine.specs.declared.events.Outcome.{Outcome}
use Rattle.abt_machine.specs.declared.events.Piece.{Piece}
use Rattle.abt_machine.specs.declared.workload.Parts.{Parts}
use Rattle.abt_machine.specs.Grammar.{Reads}
use Rattle.abt_machine.specs.Outcomes.{EndsAs}
use Rattle.abt_machine.specs.Runs.{last_state}
use Rattle.abt_machine.specs.Stored.{Stored}
use Rattle.abt_machine.specs.Words.{Text}
use Rattle.abt_bounds.specs.Laws.{HasNoRevive, ops_in}
use Rattle.abt_check.specs.Verdicts.{IsStampedRun}
use Rattle.abt_drain.specs.Looks.{EndsWith}
use Rattle.abt_flow.specs.Confluent.{Confluent}
use Rattle.abt_flow.specs.Flow.{IsFlow}
use Rattle.abt_generate.specs.Generated.{generated}
use Rattle.abt_report.specs.Journals.{IsTextOf, journal_limit}
use Rattle.abt_shell.specs.Calls.{EndsBy, HasReadFault, IsStill, Left, Program}
use Rattle.abt_shell.specs.More.{Adds}
use Rattle.abt_shell.specs.Told.{Grew}
use Rattle.abt_shell.specs.declared.status.Stop.{Stop}
use Rattle.abt_words.specs.declared.commands.CheckWords.{CheckWords}
use Rattle.abt_words.specs.declared.commands.Command.{Command}
use Rattle.abt_words.specs.declared.commands.Command.TheVariants as command
use Rattle.abt_words.specs.declared.commands.OutputWords.{OutputWords}
use Rattle.abt_words.specs.declared.commands.RunWords.{RunWords}
use Rattle.abt_words.specs.declared.commands.Shows.{Shows}
use Rattle.abt_words.specs.declared.commands.Shows.TheVariants as show
use Rattle.abt_words.specs.Commands.{Says}
use Rattle.abt_run.specs.Given.{Given, IsNamed, SaysNothing, Tells, workload_file}
use Rattle.abt_run.specs.Prepared.{StopsCommand}
use Rattle.abt_run.specs.Printed.{LeadsTo, Prints, followed_text}
use Rattle.abt_run.specs.SelfAdds.{SelfAdds}
use Rattle.abt_run.specs.Status.{name, number_of_conclusion, number_of_end, usage_of}
use Rattle.abt_run.specs.Steps.{AsksBeyond, ExceedsKnown, LetsStreams, MayMake}
use Rattle.abt_run.specs.declared.keeping.Keep.{Keep}
use Rattle.abt_run.specs.declared.status.Conclusion.{Conclusion}

-- what the call was given and what it keeps, of which names it is observable that no file has them, what it left, and the journal that it
-- answered, if it did
pub record Call : Type 1 where
  pub given : Given
  pub keep : Keep
  pub absent : Text → Type 0
  pub left : Left
  pub journal : Option (List Event)

-- What each status says.

-- the command is not carried out for this reason, and no journal is answered
pub record IsStopped (c : Call) (stop : Stop) : Type 0 where
  pub why : StopsCommand c.given c.left.read_faults stop
  pub journal : c.journal ≡ None

-- the program, of which each status says what `Wrote`, `WrotePrefix` or `StoppedBy` of abt_shell has
abbrev pub program : Call → Program Conclusion
program c = record {
  name = name;
  number = number_of_conclusion;
  Prints = λ conclusion text. Prints c.given c.keep conclusion c.journal text;
  Stops = IsStopped c;
  Adds = Adds (usage_of c.given.words) (IsNamed c.given.words);
}

-- When each status must come, unless memory runs out.

-- the command runs W, and W is known: it is read from bytes that are observable, or made of the number of units
abbrev pub RunsKnown : Command → Given → Parts → Type 0
RunsKnown (command.Run w) g W = Tells g w.file (λ bytes. Reads bytes W)
RunsKnown (command.SelfRun units) g W = W ≡ generated units
RunsKnown (command.Check w) g W = ⊥
RunsKnown (command.CheckOutput w) g W = ⊥
RunsKnown (command.Flow file) g W = ⊥
RunsKnown (command.Explore w) g W = ⊥
RunsKnown command.Help g W = ⊥
RunsKnown command.Version g W = ⊥

-- the status of a run that was written whole
abbrev pub IsOfRun : ℕ → Type 0
IsOfRun n = (n ≡ 0) ⊎ ((n ≡ 1) ⊎ (n ≡ 4))

-- if a command's workload is known, the words do not ask for more steps than its format allows, and no fault comes, it runs
abbrev pub IsComplete : ℕ → Call → Type 0
IsComplete n c = (command : Command) (W : Parts) → Says c.given.words command → RunsKnown command c.given W → (AsksBeyond c.given → ⊥) → IsStill c.left → IsOfRun n ⊎ (n ≡ 7)

-- the status is 0 if this holds, and 1 if it does not
abbrev pub Decides : ℕ → Type 0 → Type 0
Decides n P = (P × (n ≡ 0)) ⊎ ((P → ⊥) × (n ≡ 1))

-- the journal ended, if each stream may make n steps
abbrev pub HasEnded : Parts → ℕ → List Event → Type 0
HasEnded W n J = (o : Outcome) × EndsAs W n J o

-- the journal is a stamped run whose streams may make `steps` steps each, and n is the status of its end; or it is none, and n is 3
abbrev pub FollowsJournal : ℕ → Parts → Stored → ℕ → List Event → Type 0
FollowsJournal n W Z steps J = (IsStampedRun W Z J × ((end : Option Outcome) × EndsWith W steps J end × (n ≡ number_of_end end))) ⊎ ((IsStampedRun W Z J → ⊥) × (n ≡ 3))

-- the status says whether the journal is a run of W with stamps; whether it is one that ended, if the end is shown; or how it ended, if the
-- report is. Each stream may make as many steps as the workload's file, whose bytes are observable, lets it
abbrev pub JudgesBy : Shows → ℕ → Option Text → Parts → Stored → List Event → Type 0
JudgesBy show.Verdict n told W Z J = Decides n (IsStampedRun W Z J)
JudgesBy show.End n told W Z J = (steps : ℕ) → LetsStreams told None steps → Decides n (IsStampedRun W Z J × HasEnded W steps J)
JudgesBy (show.Report why) n told W Z J = (steps : ℕ) → LetsStreams told None steps → FollowsJournal n W Z steps J

-- if a workload and a journal are known, and no fault comes, the status judges the journal
abbrev pub ChecksJournals : ℕ → Call → Type 0
ChecksJournals n c = (w : CheckWords) (W : Parts) (J : List Event) → Says c.given.words (command.Check w)
    → Tells c.given w.workload (λ bytes. Reads bytes W) → Tells c.given w.journal (IsTextOf J) → IsStill c.left
    → JudgesBy w.shows n (c.given.file w.workload) W c.given.stored J ⊎ (n ≡ 7)

-- the bytes are the output of a run of W that ended, whose streams may make n steps each: the text of its journal, and then its report, with
-- what units wait for or not
pub record IsRunOutput (why : Bool) (W : Parts) (Z : Stored) (n : ℕ) (bytes : Text) : Type 0 where
  pub journal : List Event
  pub front : Text
  pub text : IsTextOf journal front
  pub outcome : Outcome
  pub leads : LeadsTo W Z n journal (Some outcome)
  pub whole : front ++ followed_text W (last_state W journal) journal (Some outcome) why ≡ bytes
  pub short : length bytes ≤ journal_limit

-- if a workload and the bytes of an output are known, and no fault comes, the status is 0 if they are the output of a run, and 1 or, if no
-- journal stands before the report, 3 if they are not
abbrev pub ChecksOutputs : ℕ → Call → Type 0
ChecksOutputs n c = (w : OutputWords) (W : Parts) (bytes : Text) (steps : ℕ) → Says c.given.words (command.CheckOutput w)
    → Tells c.given w.workload (λ text. Reads text W) → c.given.file w.output ≡ Some bytes → LetsStreams (c.given.file w.workload) None steps → IsStill c.left
    → (IsRunOutput w.why W c.given.stored steps bytes × (n ≡ 0)) ⊎ (((IsRunOutput w.why W c.given.stored steps bytes → ⊥) × ((n ≡ 1) ⊎ (n ≡ 3))) ⊎ (n ≡ 7))

-- if a workload is known, and no fault comes, the status says whether it is confluent and has a flow
abbrev pub FindsFlows : ℕ → Call → Type 0
FindsFlows n c = (file : Text) (W : Parts) → Says c.given.words (command.Flow file) → Tells c.given file (λ bytes. Reads bytes W) → IsStill c.left
    → Decides n (Confluent W × ((rows : List (List Piece)) × IsFlow W c.given.stored.returns rows)) ⊎ (n ≡ 7)

-- if the words name a file whose bytes are observable and are not a workload's text, they do not ask for more steps than its format allows,
-- and no fault of reading comes, the status is 3
abbrev pub RefusesTexts : ℕ → Call → Type 0
RefusesTexts n c = (command : Command) (file : Text) → Says c.given.words command → workload_file command ≡ Some file
    → Tells c.given file (λ bytes. (W : Parts) → Reads bytes W → ⊥) → (AsksBeyond c.given → ⊥) → (Grew c.left.read_faults → ⊥) → (n ≡ 3) ⊎ (n ≡ 7)

-- and so it is if a journal's bytes are observable and are not a journal's text
abbrev pub RefusesJournals : ℕ → Call → Type 0
RefusesJournals n c = (w : CheckWords) (W : Parts) → Says c.given.words (command.Check w) → Tells c.given w.workload (λ bytes. Reads bytes W)
    → Tells c.given w.journal (λ bytes. (J : List Event) → IsTextOf J bytes → ⊥) → (Grew c.left.read_faults → ⊥) → (n ≡ 3) ⊎ (n ≡ 7)

-- if no file has the name of the workload, which is observable, it cannot be read
abbrev pub MissesFiles : ℕ → Call → Type 0
MissesFiles n c = (command : Command) (file : Text) → Says c.given.words command → workload_file command ≡ Some file → c.absent file → (n ≡ 5) ⊎ (n ≡ 7)

-- nor can a journal, if no file has its name, which is observable, and the workload is known
abbrev pub MissesJournals : ℕ → Call → Type 0
MissesJournals n c = (w : CheckWords) (W : Parts) → Says c.given.words (command.Check w) → Tells c.given w.workload (λ bytes. Reads bytes W)
    → c.absent w.journal → (n ≡ 5) ⊎ (n ≡ 7)

-- nor can an output
abbrev pub MissesOutputs : ℕ → Call → Type 0
MissesOutputs n c = (w : OutputWords) (W : Parts) → Says c.given.words (command.CheckOutput w) → Tells c.given w.workload (λ bytes. Reads bytes W)
    → c.absent w.output → (n ≡ 5) ⊎ (n ≡ 7)

-- if the words are not a command, they are refused
abbrev pub RefusesWords : ℕ → Call → Type 0
RefusesWords n c = SaysNothing c.given.words → (n ≡ 2) ⊎ (n ≡ 7)

-- and so they are if they ask for more steps than the format of a file allows whose bytes are observable, and no fault of reading comes
abbrev pub RefusesSteps : ℕ → Call → Type 0
RefusesSteps n c = (w : RunWords) → Says c.given.words (command.Run w) → ExceedsKnown (c.given.file w.file) w.steps
    → (Grew c.left.read_faults → ⊥) → (n ≡ 2) ⊎ (n ≡ 7)

-- if each stream may make as many steps as the workload has operations, and none of these revives a unit, no stream uses up its steps
abbrev pub SpendsNone : ℕ → Call → Type 0
SpendsNone n c = (command : Command) (W : Parts) (steps : ℕ) → Says c.given.words command → RunsKnown command c.given W → MayMake command c.given steps
    → HasNoRevive W → ops_in W ≤ steps → n ≢ 4

-- if the words are `self` with a number of units, the output is what these come to in every run
abbrev pub AddsUp : ℕ → Call → Type 0
AddsUp n c = (units : ℕ) → Says c.given.words (command.SelfRun units) → SelfAdds n units c.left

-- the exit status of a call has its cause, and the status comes if its cause holds
pub record IsAnswered (n : ℕ) (c : Call) : Type 0 where
  pub cause : EndsBy (program c) c.left n
  pub complete : IsComplete n c
  pub checks : ChecksJournals n c
  pub outputs : ChecksOutputs n c
  pub flows : FindsFlows n c
  pub texts : RefusesTexts n c
  pub journals : RefusesJournals n c
  pub words : RefusesWords n c
  pub steps : RefusesSteps n c
  pub spends : SpendsNone n c
  pub adds : AddsUp n c
  pub absent : MissesFiles n c
  pub missing : MissesJournals n c
  pub lost : MissesOutputs n c
  pub reads : (Grew c.left.read_faults → ⊥) → n ≢ 5
  pub faulty : HasReadFault c.left → (n ≡ 5) ⊎ (n ≡ 7)
  pub writes : (Grew c.left.out_faults → ⊥) → n ≢ 6
