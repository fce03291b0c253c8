-- What words ask for, and the bytes of the files that they name if these are seen.
use Rattle.std.proofs.Common.{◌≡◌, ◌∙◌, ◌⊎◌, ℕ, List, Option, Some, None, inl, inr, ap, subst, sym}
use Rattle.std.specs.Prelude.{IfSome}
use Rattle.abt_machine.specs.declared.workload.Parts.{Parts}
use Rattle.abt_machine.specs.Grammar.{Reads}
use Rattle.abt_machine.specs.Words.{Text}
use Rattle.abt_shell.proofs.Fetched.{of-observed}
use Rattle.abt_words.specs.declared.itself.Topic.{Topic}
use Rattle.abt_words.specs.declared.lives.LivesWords.{LivesWords}
use Rattle.abt_words.specs.About.{AsksAbout}
use Rattle.abt_words.specs.Lives.{SaysLives}
use Rattle.abt_words.proofs.OneLives.{about-or-lives, one-lives}
use Rattle.abt_run.specs.Given.{Given}
use Rattle.abt_run.proofs.Stepping.{same-number}
use Rattle.abt_lives.specs.Asked.{AsksBeyond, AsksRun, IsBadCommand, IsNamed, MayMake}
use Rattle.abt_lives.specs.Call.{Call, TellsWorkload, TellsBoth}

-- words ask for one run
pub same-asked : (words : List Text) (a b : AsksRun words) → a.asked ≡ b.asked
same-asked words a b = one-lives words b.asked a.asked b.says a.says

-- of one file
pub same-file : (words : List Text) (file_of : Text → Option Text) (a b : AsksRun words) → file_of a.asked.workload ≡ file_of b.asked.workload
same-file words file_of a b = ap (λ (w : LivesWords). file_of w.workload) (same-asked words a b)

-- or ask about the program
pub run-or-about : (words : List Text) (run : AsksRun words) (a : Topic) → AsksAbout words a → ⊥
run-or-about words run a asks = about-or-lives words a run.asked asks run.says

-- and those that do not ask for too many steps are no bad command
pub not-bad-command : (g : Given) → AsksRun g.words → (AsksBeyond g → ⊥) → IsBadCommand g → ⊥
not-bad-command g run within bad = elim bad [ inl none ↦ none.0 run.asked run.says | inr beyond ↦ within beyond ]

-- the same words, with names that are spelled again
pub said-as : (words : List Text) (asked : LivesWords) (workload lives : Text) → workload ≡ asked.workload → lives ≡ asked.lives → SaysLives words asked
    → SaysLives words (record { workload = workload; lives = lives; steps = asked.steps; journal = asked.journal })
said-as words asked workload lives first second says =
    subst (λ (w : Text). SaysLives words (record { workload = w; lives = lives; steps = asked.steps; journal = asked.journal })) (sym first)
    (subst (λ (l : Text). SaysLives words (record { workload = asked.workload; lives = l; steps = asked.steps; journal = asked.journal })) (sym second) says)

-- a file of the run that words ask for is one that they name
pub named : (words : List Text) (asked : LivesWords) (begun : Option Text) → SaysLives words asked → IfSome begun (λ file. (file ≡ asked.workload) ⊎ (file ≡ asked.lives))
    → IfSome begun (IsNamed words)
named words asked None says its = tt
named words asked (Some file) says its = (record { asked = asked; says = says }, its)

-- by what is seen of a file each stream may make one number of steps
pub one-made : (told : Option Text) (bytes : Text) (asked : Option ℕ) (m n : ℕ) → told ≡ Some bytes → MayMake told asked m → MayMake told asked n → m ≡ n
one-made told bytes None m n seen one two = one ∙ sym two
one-made told bytes (Some steps) m n seen one two = same-number told bytes (Some steps) m n seen one two

module _ (c : Call) (W : Parts) (run : AsksRun c.given.words) where
  -- the bytes of the first file
  first-seen : (tells : TellsWorkload c W) → c.given.file run.asked.workload ≡ Some tells.bytes
  first-seen tells = same-file c.given.words c.given.file run tells.run ∙ tells.seen

  -- what is known of them
  pub of-first : (P : Text → Type 0) (tells : TellsWorkload c W) → IfSome (c.given.file run.asked.workload) P → P tells.bytes
  of-first P tells known = of-observed P (c.given.file run.asked.workload) tells.bytes (first-seen tells) known

  -- is of its workload
  pub one-workload : (V : Parts) → TellsWorkload c W → IfSome (c.given.file run.asked.workload) (λ bytes. Reads bytes V) → V ≡ W
  one-workload V tells known = (of-first (λ bytes. Reads bytes V) tells known).parts ∙ sym tells.reads.parts

  -- and of the second
  pub of-second : (P : Text → Type 0) (text : Text) (both : TellsBoth c W text) → IfSome (c.given.file run.asked.lives) P → P text
  of-second P text both known =
      of-observed P (c.given.file run.asked.lives) text (ap (λ (w : LivesWords). c.given.file w.lives) (same-asked c.given.words run both.first.run) ∙ both.second) known

  -- the words ask each stream to make one number of steps
  pub one-number : (tells : TellsWorkload c W) (m n : ℕ) → MayMake (c.given.file run.asked.workload) run.asked.steps m → MayMake (c.given.file tells.run.asked.workload) tells.run.asked.steps n → m ≡ n
  one-number tells m n one two =
      one-made (c.given.file run.asked.workload) tells.bytes run.asked.steps m n (first-seen tells) one
      (subst (λ (w : LivesWords). MayMake (c.given.file w.workload) w.steps n) (sym (same-asked c.given.words run tells.run)) two)
