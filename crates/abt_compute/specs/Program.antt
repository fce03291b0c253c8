-- What a call of the program was given, and what each exit status says of what it left.
use Rattle.std.specs.Prelude.{◌≡◌, ◌≢◌, ◌⊎◌, ℕ, List, Option, codes, ⊤}
use Rattle.abt_machine.specs.Words.{Text}
use Rattle.abt_shell.specs.declared.status.Stop.{Stop}
use Rattle.abt_shell.specs.declared.status.Wrong.{Wrong}
use Rattle.abt_shell.specs.Calls.{EndsBy, HasReadFault, Left, Program}
use Rattle.abt_shell.specs.Fetched.{StopsFor}
use Rattle.abt_shell.specs.More.{Adds}
use Rattle.abt_shell.specs.Told.{Grew}
use Rattle.abt_words.specs.declared.itself.Topic.{Topic}
use Rattle.abt_words.specs.declared.itself.Topic.TheVariants.{Help, Version}
use Rattle.abt_words.specs.declared.versions.Program.TheVariants as program_of
use Rattle.abt_words.specs.About.{AsksAbout}
use Rattle.abt_words.specs.Versions.{version_text}
use Rattle.abt_compute.specs.Answers.{Answers, HasBadLine, IsFit, IsKnown, ReadsFile}
use Rattle.abt_compute.specs.Questions.{Question, Asks, AsksNothing, Names}

-- the words, the bytes of each file if they are observable, of which names it is observable that no file has them, and what the call left
pub record Call : Type 1 where
  pub words : List Text
  pub file : Text → Option Text
  pub absent : Text → Type 0
  pub left : Left

-- the words ask a question of which this holds
pub record AskSuch (words : List Text) (Is : Question → Type 0) : Type 0 where
  pub question : Question
  pub streams : ℕ
  pub asks : Asks words question streams
  pub is : Is question

-- the text is what is printed for the question that the words ask
abbrev pub IsAnswerOf : List Text → (Text → Option Text) → Text → Type 0
IsAnswerOf words file_of text = AskSuch words (λ q. Answers file_of q text)

-- the question that the words ask reads this file
abbrev pub IsNamed : List Text → Text → Type 0
IsNamed words file = AskSuch words (λ q. Names q file)

-- a line of a file that the question reads has this wrong
abbrev pub IsBadLine : List Text → (Text → Option Text) → ℕ → Wrong → Type 0
IsBadLine words file_of line w = AskSuch words (λ q. HasBadLine file_of q line w)

-- what the program says of itself
abbrev pub about_text : Topic → Text
about_text Help = codes "abtwork primes N [--streams S]\nabtwork queens N [--streams S]\nabtwork lcs FILE FILE [--streams S]\nabtwork mergesort FILE [--streams S]\nabtwork mandelbrot WIDTH HEIGHT [--streams S]\nabtwork turns NODES TURNS [--streams S]\nabtwork --help\nabtwork --version\n"
about_text Version = version_text program_of.Work

-- the words ask about the program, and the text is what it says of itself
pub record Explains (words : List Text) (text : Text) : Type 0 where
  pub topic : Topic
  pub asks : AsksAbout words topic
  pub says : text ≡ about_text topic

-- they do not ask about the program
abbrev pub AsksNoTopic : List Text → Type 0
AsksNoTopic words = (topic : Topic) → AsksAbout words topic → ⊥

-- why a call stops before its first write, by the words, the files, and the count of faults of reading before and afterwards
abbrev pub StopsWork : List Text → (Text → Option Text) → ℕ × ℕ → Stop → Type 0
StopsWork words file_of = StopsFor (AsksNothing words) (AskSuch words ReadsFile) (IsBadLine words file_of)

-- how the program is called
abbrev pub usage : Text
usage = codes "abtwork primes N | queens N | lcs FILE FILE | mergesort FILE | mandelbrot WIDTH HEIGHT | turns NODES TURNS [--streams S]\n"

-- the program: each status says what `Wrote`, `WrotePrefix` or `StoppedBy` of abt_shell states; its one conclusion is that the answer, or what
-- it says of itself, is written; if it is asked about itself, it does not stop
abbrev pub program : Call → Program ⊤
program c = record {
  name = codes "abtwork";
  number = λ _. 0;
  Prints = λ _ text. IsAnswerOf c.words c.file text ⊎ Explains c.words text;
  Stops = λ stop. StopsWork c.words c.file c.left.read_faults stop × AsksNoTopic c.words;
  Adds = Adds usage (IsNamed c.words);
}

-- if the words ask a question whose files are as they should be, and no fault of reading or writing comes, its answer is written
abbrev pub IsComplete : ℕ → Call → Type 0
IsComplete n c = (q : Question) (streams : ℕ) → Asks c.words q streams → IsFit c.file q → (Grew c.left.read_faults → ⊥) → (Grew c.left.out_faults → ⊥) → (n ≡ 0) ⊎ (n ≡ 7)

-- if its files are observable and are not as they should be, and no fault of reading comes, the status is 3
abbrev pub RefusesTexts : ℕ → Call → Type 0
RefusesTexts n c = (q : Question) (streams : ℕ) → Asks c.words q streams → IsKnown c.file q → (IsFit c.file q → ⊥) → (Grew c.left.read_faults → ⊥) → (n ≡ 3) ⊎ (n ≡ 7)

-- if no file has the name of one that the question reads, which is observable, it cannot be read
abbrev pub MissesFiles : ℕ → Call → Type 0
MissesFiles n c = (q : Question) (streams : ℕ) (file : Text) → Asks c.words q streams → Names q file → c.absent file → (n ≡ 5) ⊎ (n ≡ 7)

-- if the words ask for nothing, also not about the program, they are refused
abbrev pub RefusesWords : ℕ → Call → Type 0
RefusesWords n c = AsksNothing c.words → AsksNoTopic c.words → n ≡ 2

-- if they ask about the program, and no fault of writing comes, it says that of itself
abbrev pub TellsAbout : ℕ → Call → Type 0
TellsAbout n c = (topic : Topic) → AsksAbout c.words topic → (Grew c.left.out_faults → ⊥) → n ≡ 0

-- the exit status of a call has its cause, and the status comes if its cause holds
pub record IsAnswered (n : ℕ) (c : Call) : Type 0 where
  pub cause : EndsBy (program c) c.left n
  pub complete : IsComplete n c
  pub texts : RefusesTexts n c
  pub words : RefusesWords n c
  pub about : TellsAbout n c
  pub absent : MissesFiles n c
  pub reads : (Grew c.left.read_faults → ⊥) → n ≢ 5
  pub faulty : HasReadFault c.left → (n ≡ 5) ⊎ (n ≡ 7)
  pub writes : (Grew c.left.out_faults → ⊥) → n ≢ 6
