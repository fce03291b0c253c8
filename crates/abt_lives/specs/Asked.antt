-- What the words of a call ask for, and how many steps each stream may make.
use Rattle.std.specs.Prelude.{ℕ, ◌≡◌, ◌⊎◌, List, Option, Some, None}
use Rattle.abt_machine.specs.Limits.{default_steps}
use Rattle.abt_machine.specs.Words.{Text}
use Rattle.abt_shell.specs.declared.status.Stop.{Stop}
use Rattle.abt_shell.specs.declared.status.Stop.TheVariants.{CannotRead}
use Rattle.abt_words.specs.declared.itself.Topic.{Topic}
use Rattle.abt_words.specs.declared.lives.LivesWords.{LivesWords}
use Rattle.abt_words.specs.About.{AsksAbout}
use Rattle.abt_words.specs.Lives.{SaysLives}
use Rattle.abt_run.specs.Given.{Given}
use Rattle.abt_run.specs.Prepared.{HasNoRun}
use Rattle.abt_run.specs.Steps.{Exceeds, LetsStreams}

-- Words.

-- the words ask for a run on lives
pub record AsksRun (words : List Text) : Type 0 where
  pub asked : LivesWords
  pub says : SaysLives words asked

-- and name this file
abbrev pub IsNamed : List Text → Text → Type 0
IsNamed words file = (run : AsksRun words) × ((file ≡ run.asked.workload) ⊎ (file ≡ run.asked.lives))

-- they ask neither for that nor about the program
abbrev pub AsksNothing : List Text → Type 0
AsksNothing words = ((w : LivesWords) → SaysLives words w → ⊥) × ((a : Topic) → AsksAbout words a → ⊥)

-- Steps.

-- by the bytes of the workload's file, if they are observable, each stream may make n steps: as many as the words ask for, which the
-- format of the text allows, or 10,000 if they ask for none
abbrev pub MayMake : Option Text → Option ℕ → ℕ → Type 0
MayMake told None n = n ≡ default_steps
MayMake told (Some asked) n = LetsStreams told (Some asked) n

-- the words ask for more steps than the format of the workload allows
pub record AsksBeyond (g : Given) : Type 0 where
  pub run : AsksRun g.words
  pub exceeds : Exceeds (g.file run.asked.workload) run.asked.steps

-- the words ask for nothing, or for too many steps
abbrev pub IsBadCommand : Given → Type 0
IsBadCommand g = AsksNothing g.words ⊎ AsksBeyond g

-- the lives cannot be read, or the first file has no workload, or none with so many steps
abbrev pub LacksLives : Option Text → Option ℕ → ℕ × ℕ → Stop → Type 0
LacksLives told asked faults stop = (stop ≡ CannotRead) ⊎ HasNoRun told asked faults stop
