-- What each status says about what a call of the program left, and when it comes.
use Rattle.std.specs.Prelude.{◌≡◌, ◌≢◌, ◌≤◌, ◌⊎◌, ◌++◌, if◌then◌else◌, ℕ, Bool, List, [], Some, IfSome}
use Rattle.abt_machine.specs.declared.events.Event.{Event}
use Rattle.abt_machine.specs.declared.events.Outcome.{Outcome}
use Rattle.abt_machine.specs.declared.workload.Parts.{Parts}
use Rattle.abt_machine.specs.Grammar.{Reads}
use Rattle.abt_machine.specs.Outcomes.{steps_in}
use Rattle.abt_machine.specs.Runs.{last_state}
use Rattle.abt_machine.specs.Texts.{journal_text, report_text}
use Rattle.abt_machine.specs.Words.{Text}
use Rattle.abt_bounds.specs.Laws.{HasNoRevive, ops_in}
use Rattle.abt_run.specs.Call.{IsOfRun}
use Rattle.abt_run.specs.Given.{Given, IsReadFrom}
use Rattle.abt_run.specs.Steps.{ExceedsKnown}
use Rattle.abt_shell.specs.declared.status.Stop.{Stop}
use Rattle.abt_shell.specs.declared.status.Wrong.{Wrong}
use Rattle.abt_shell.specs.declared.status.Wrong.TheVariants.{Workload, Journal, Lives}
use Rattle.abt_shell.specs.Calls.{EndsBy, HasReadFault, Left, Program}
use Rattle.abt_shell.specs.Fetched.{StopsFor}
use Rattle.abt_shell.specs.More.{Adds}
use Rattle.abt_shell.specs.Told.{Grew}
use Rattle.abt_sizes.specs.Laws.{IsSmall}
use Rattle.abt_streams.specs.declared.life.Life.{Life}
use Rattle.abt_streams.specs.declared.wave.Wave.{Wave}
use Rattle.abt_streams.specs.Waves.{HasRunOn}
use Rattle.abt_workload.specs.Hints.{RefusesSo}
use Rattle.abt_words.specs.declared.itself.Topic.{Topic}
use Rattle.abt_words.specs.About.{AsksAbout}
use Rattle.abt_lives.specs.declared.status.Conclusion.{Conclusion}
use Rattle.abt_lives.specs.declared.status.Conclusion.TheVariants.{Ended, Explained}
use Rattle.abt_lives.specs.Asked.{AsksBeyond, AsksNothing, AsksRun, IsBadCommand, IsNamed, MayMake}
use Rattle.abt_lives.specs.Lives.{ReadsLives, RefusesLives, RefusesLivesSo, waves_text}
use Rattle.abt_lives.specs.Status.{about_text, name, number_of_conclusion, usage}

-- what the call was given, of which names it is observable that no file has them, what it left, and the journal that was returned
pub record Call : Type 1 where
  pub given : Given
  pub absent : Text → Type 0
  pub left : Left
  pub journal : List Event

-- What is known of the files.

-- the bytes of the first, if they are seen, are refused as a workload's text
pub record NamesRefused (g : Given) (Is : Text → Type 0) : Type 0 where
  pub run : AsksRun g.words
  pub refuses : IfSome (g.file run.asked.workload) Is

-- the bytes of the first, if they are seen, are the text of a workload, and those of the second are refused as its lives'
pub record NamesBadLives (g : Given) (l : ℕ) (said : Text) : Type 0 where
  pub run : AsksRun g.words
  pub workload : Parts
  pub reads : IsReadFrom g run.asked.workload workload
  pub refuses : IfSome (g.file run.asked.lives) (λ bytes. RefusesLivesSo workload bytes l said)

-- What runs.

-- what is printed of a run of W in these waves: its journal, if it is asked for, the report, and the waves
abbrev pub waves_output : Bool → Parts → List Event → List Wave → Outcome → Text
waves_output with_journal W J waves o = (if with_journal then journal_text J else []) ++ (report_text W (last_state W J) (steps_in J) o ++ waves_text waves)

-- J is a run of W on the lives in a file, in these waves, in which each stream may make so many steps, and ended so; the file's bytes, if
-- they are seen, are the lives' text
pub record IsRunOn (W : Parts) (file : Text) (steps : ℕ) (g : Given) (J : List Event) (o : Outcome) : Type 0 where
  pub lives : List Life
  pub waves : List Wave
  pub reads : IfSome (g.file file) (λ bytes. ReadsLives W bytes lives)
  pub run : HasRunOn W g.stored steps lives J waves o

-- the workload of the first file that the words name ran on the lives in the second, J is the run, ended so, and is small, and the text is what the
-- program prints of it
pub record RanOnLives (g : Given) (J : List Event) (o : Outcome) (text : Text) : Type 0 where
  pub asks : AsksRun g.words
  pub workload : Parts
  pub reads : IsReadFrom g asks.asked.workload workload
  pub steps : ℕ
  pub may : MayMake (g.file asks.asked.workload) asks.asked.steps steps
  pub run : IsRunOn workload asks.asked.lives steps g J o
  pub small : IsSmall workload J
  pub output : text ≡ waves_output asks.asked.journal workload J run.waves o

-- the call was carried out and came to this, J is the journal that is returned, and the text is what it prints
abbrev pub PrintsLives : Given → List Event → Conclusion → Text → Type 0
PrintsLives g J (Ended o) text = RanOnLives g J o text
PrintsLives g J (Explained a) text = AsksAbout g.words a × (text ≡ about_text a) × (J ≡ [])

-- Why a call stops before its first write.

-- a line of a file that the words name has this wrong
abbrev pub IsBadLine : Given → ℕ → Wrong → Type 0
IsBadLine g line (Workload f said) = NamesRefused g (λ bytes. RefusesSo bytes line f said.now)
IsBadLine g line (Journal said) = ⊥
IsBadLine g line (Lives said) = NamesBadLives g line said.now

-- by the words, the files, and the count of faults of reading before and afterwards
abbrev pub StopsLives : Given → ℕ × ℕ → Stop → Type 0
StopsLives g = StopsFor (IsBadCommand g) (AsksRun g.words) (IsBadLine g)

-- What each status says.

-- the call stops for this reason, and no journal is returned
pub record IsStopped (c : Call) (stop : Stop) : Type 0 where
  pub why : StopsLives c.given c.left.read_faults stop
  pub journal : c.journal ≡ []

-- the program, of which each status says what `Wrote`, `WrotePrefix` or `StoppedBy` of abt_shell has
abbrev pub program : Call → Program Conclusion
program c = record {
  name = name;
  number = number_of_conclusion;
  Prints = PrintsLives c.given c.journal;
  Stops = IsStopped c;
  Adds = Adds usage (IsNamed c.given.words);
}

-- When each status must come, unless memory runs out.

-- the words name two files, and the bytes of the first are seen and are the text of W
pub record TellsWorkload (c : Call) (W : Parts) : Type 0 where
  pub run : AsksRun c.given.words
  pub bytes : Text
  pub seen : c.given.file run.asked.workload ≡ Some bytes
  pub reads : Reads bytes W

-- and those of the second are seen
pub record TellsBoth (c : Call) (W : Parts) (text : Text) : Type 0 where
  pub first : TellsWorkload c W
  pub second : c.given.file first.run.asked.lives ≡ Some text

-- if both texts are right, the words do not ask for more steps than the first allows, and no fault of reading or writing comes, the
-- workload runs
abbrev pub IsComplete : ℕ → Call → Type 0
IsComplete n c = (W : Parts) (text : Text) (lives : List Life) → TellsBoth c W text → ReadsLives W text lives → (AsksBeyond c.given → ⊥)
    → (Grew c.left.read_faults → ⊥) → (Grew c.left.out_faults → ⊥) → IsOfRun n ⊎ (n ≡ 7)

-- if the second is wrong, or the first, and no fault of reading comes, it ends with 3
abbrev pub RefusesBadLives : ℕ → Call → Type 0
RefusesBadLives n c = (W : Parts) (text : Text) → TellsBoth c W text → ((lives : List Life) → ReadsLives W text lives → ⊥) → (AsksBeyond c.given → ⊥)
    → (Grew c.left.read_faults → ⊥) → (n ≡ 3) ⊎ (n ≡ 7)

abbrev pub RefusesTexts : ℕ → Call → Type 0
RefusesTexts n c = (run : AsksRun c.given.words) (bytes : Text) → c.given.file run.asked.workload ≡ Some bytes → ((W : Parts) → Reads bytes W → ⊥)
    → (AsksBeyond c.given → ⊥) → (Grew c.left.read_faults → ⊥) → (n ≡ 3) ⊎ (n ≡ 7)

-- if no file has the name of the workload, which is observable, it cannot be read
abbrev pub MissesFiles : ℕ → Call → Type 0
MissesFiles n c = (run : AsksRun c.given.words) → c.absent run.asked.workload → (n ≡ 5) ⊎ (n ≡ 7)

-- nor can the lives, if no file has their name, which is observable, and the workload is known and allows the steps
abbrev pub MissesLives : ℕ → Call → Type 0
MissesLives n c = (W : Parts) (tells : TellsWorkload c W) → c.absent tells.run.asked.lives → (AsksBeyond c.given → ⊥) → (n ≡ 5) ⊎ (n ≡ 7)

-- if the words ask for nothing, they are refused
abbrev pub RefusesWords : ℕ → Call → Type 0
RefusesWords n c = AsksNothing c.given.words → (n ≡ 2) ⊎ (n ≡ 7)

-- and so they are if they ask for more steps than the format of a workload allows whose bytes are seen, and no fault of reading comes
abbrev pub RefusesSteps : ℕ → Call → Type 0
RefusesSteps n c = (run : AsksRun c.given.words) → ExceedsKnown (c.given.file run.asked.workload) run.asked.steps
    → (Grew c.left.read_faults → ⊥) → (n ≡ 2) ⊎ (n ≡ 7)

-- if they ask about the program, and no fault of writing comes, it says that
abbrev pub Explains : ℕ → Call → Type 0
Explains n c = (a : Topic) → AsksAbout c.given.words a → (Grew c.left.out_faults → ⊥) → (n ≡ 0) ⊎ (n ≡ 7)

-- if each stream may make as many steps as the workload has operations, and none of these revives a unit, no stream uses up its steps
abbrev pub SpendsNone : ℕ → Call → Type 0
SpendsNone n c = (W : Parts) (tells : TellsWorkload c W) (steps : ℕ) → MayMake (c.given.file tells.run.asked.workload) tells.run.asked.steps steps
    → HasNoRevive W → ops_in W ≤ steps → n ≢ 4

-- the exit status of a call has its cause, and if that cause is at hand the status comes
pub record IsAnswered (n : ℕ) (c : Call) : Type 0 where
  pub cause : EndsBy (program c) c.left n
  pub complete : IsComplete n c
  pub lives : RefusesBadLives n c
  pub texts : RefusesTexts n c
  pub words : RefusesWords n c
  pub steps : RefusesSteps n c
  pub explains : Explains n c
  pub spends : SpendsNone n c
  pub absent : MissesFiles n c
  pub missing : MissesLives n c
  pub reads : (Grew c.left.read_faults → ⊥) → n ≢ 5
  pub faulty : HasReadFault c.left → (n ≡ 5) ⊎ (n ≡ 7)
  pub writes : (Grew c.left.out_faults → ⊥) → n ≢ 6
