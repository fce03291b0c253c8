-- What a call of the program was given, and what each status says of what it left.
use Rattle.std.specs.Prelude.{◌≡◌, ◌≢◌, ◌⊎◌, ℕ, List, [], ◌∷◌, ◌++◌, codes, decimal, ⊤}
use Rattle.abt_machine.specs.Spelling.{SaysNumber}
use Rattle.abt_machine.specs.Words.{Text, ended}
use Rattle.abt_shell.specs.declared.status.Stop.{Stop}
use Rattle.abt_shell.specs.declared.status.Stop.TheVariants.{BadWords, BadLine, CannotRead, OutOfMemory}
use Rattle.abt_shell.specs.Calls.{EndsBy, Left, Program}
use Rattle.abt_shell.specs.More.{Adds}
use Rattle.abt_shell.specs.Told.{Grew}
use Rattle.abt_words.specs.declared.itself.Topic.{Topic}
use Rattle.abt_words.specs.declared.itself.Topic.TheVariants.{Help, Version}
use Rattle.abt_words.specs.declared.versions.Program.TheVariants as program_of
use Rattle.abt_words.specs.About.{AsksAbout}
use Rattle.abt_words.specs.Versions.{version_text}
use Rattle.abt_callbacks.specs.declared.fold.FoldShape.{FoldShape}
use Rattle.abt_callbacks.specs.Folding.{number_limit}
use Rattle.abt_callbacks.specs.Futures.{CalledFutureValue}
use Rattle.abt_callbacks.specs.Runs.{IsFolded, plain_sum}

-- the words, and what the call left
pub record Call : Type 0 where
  pub words : List Text
  pub left : Left

-- how many workers the words ask for at most
abbrev pub worker_limit : ℕ
worker_limit = 8

-- the words ask for so many workers and numbers: they are two, digits of values from 1 to the most workers and the most numbers
pub record Asks (words : List Text) (workers n : ℕ) : Type 0 where
  pub first : Text
  pub second : Text
  pub two : words ≡ first ∷ second ∷ []
  pub says_workers : SaysNumber worker_limit first workers
  pub says_numbers : SaysNumber number_limit second n

-- they do not
abbrev pub AsksNoSum : List Text → Type 0
AsksNoSum words = (workers n : ℕ) → Asks words workers n → ⊥

-- they ask neither for a sum nor about the program
abbrev pub AsksNothing : List Text → Type 0
AsksNothing words = AsksNoSum words × ((topic : Topic) → AsksAbout words topic → ⊥)

-- they ask for a sum
pub record AsksSum (words : List Text) : Type 0 where
  pub workers : ℕ
  pub numbers : ℕ
  pub asks : Asks words workers numbers

-- the line of the sum of the numbers from 1 to n
abbrev pub sum_line : ℕ → Text
sum_line n = ended (codes "sum " ++ decimal (plain_sum n))

-- Workers set the numbers from 1 to n on a future of this fold, each its own, and the text is the line of the sum with which they left it.
pub record IsLineOf {F : Type 0} (shape_of : F → FoldShape) (May : F → List ℕ → ℕ → Type 0) (fold : F) (workers n : ℕ) (text : Text) : Type 0 where
  pub future : CalledFutureValue F
  pub clock : ℕ
  pub folded : IsFolded shape_of May fold workers n future clock
  pub line : text ≡ sum_line n

-- the text is the line of the sum that the words ask for, made by as many workers as they ask for
pub record IsSumLine {F : Type 0} (shape_of : F → FoldShape) (May : F → List ℕ → ℕ → Type 0) (fold : F) (words : List Text) (text : Text) : Type 0 where
  pub asked : AsksSum words
  pub made : IsLineOf shape_of May fold asked.workers asked.numbers text

-- how a sum is asked for
abbrev pub usage : Text
usage = codes "abtfold W N\n"

-- what the program says of itself
abbrev pub about_text : Topic → Text
about_text Help = usage ++ codes "abtfold --help\nabtfold --version\n"
about_text Version = version_text program_of.Fold

-- the words ask about the program, and the text is what it says of itself
pub record Explains (words : List Text) (text : Text) : Type 0 where
  pub topic : Topic
  pub asks : AsksAbout words topic
  pub says : text ≡ about_text topic

-- Why a call stops before its first write. It reads nothing.
abbrev pub StopsFold : List Text → Stop → Type 0
StopsFold words BadWords = AsksNothing words
StopsFold words (BadLine line w) = ⊥
StopsFold words CannotRead = ⊥
StopsFold words OutOfMemory = AsksSum words

-- the program, of which each status says what `Wrote`, `WrotePrefix` or `StoppedBy` of abt_shell has; its one conclusion is that it has
-- said what it was asked
abbrev pub program : {F : Type 0} → (F → FoldShape) → (F → List ℕ → ℕ → Type 0) → F → Call → Program ⊤
program shape_of May fold c = record {
  name = codes "abtfold";
  number = λ _. 0;
  Prints = λ _ text. IsSumLine shape_of May fold c.words text ⊎ Explains c.words text;
  Stops = StopsFold c.words;
  Adds = Adds usage (λ file. ⊥);
}

-- The exit status has its cause. The words decide whether it is 2, and if no write fails it is 0, 2 or 7, and 0 if they ask about the
-- program.
pub record IsAnswered {F : Type 0} (shape_of : F → FoldShape) (May : F → List ℕ → ℕ → Type 0) (fold : F) (n : ℕ) (c : Call) : Type 0 where
  pub cause : EndsBy (program shape_of May fold c) c.left n
  pub words : AsksNothing c.words → n ≡ 2
  pub explains : (topic : Topic) → AsksAbout c.words topic → (Grew c.left.out_faults → ⊥) → n ≡ 0
  pub writes : (Grew c.left.out_faults → ⊥) → n ≢ 6
