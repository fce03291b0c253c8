-- What the files of a question have, by their bytes if these are observable.
use Rattle.std.specs.Prelude.{◌≡◌, ◌≤◌, ◌<◌, ◌⊎◌, ℕ, List, [], Option, IfSome, length}
use Rattle.abt_machine.specs.declared.program.Fault.{Fault}
use Rattle.abt_machine.specs.declared.program.Fault.TheVariants as fault
use Rattle.abt_machine.specs.Words.{Text}
use Rattle.abt_shell.specs.declared.status.Stop.{Stop}
use Rattle.abt_shell.specs.declared.status.Stop.TheVariants.{CannotRead, OutOfMemory}
use Rattle.abt_shell.specs.declared.status.Wrong.{Wrong}
use Rattle.abt_shell.specs.declared.status.Wrong.TheVariants.{Workload, Journal, Lives}
use Rattle.abt_workload.specs.Hints.{line_hint}
use Rattle.abt_compute.specs.Numbers.{IsNoNumberAt, Lists}

-- the maximum number of bytes of each of two texts that are compared, and of a text that lists numbers
abbrev pub text_limit : ℕ
text_limit = 65536

abbrev pub list_limit : ℕ
list_limit = 16777216

-- a file has these bytes, which are at most so many
pub record Has (told : Option Text) (most : ℕ) (bytes : Text) : Type 0 where
  pub are : IfSome told (λ xs. bytes ≡ xs)
  pub few : length bytes ≤ most

-- a file lists these numbers
pub record HasNumbers (told : Option Text) (numbers : List ℕ) : Type 0 where
  pub bytes : Text
  pub has : Has told list_limit bytes
  pub lists : Lists bytes numbers

-- a line has this fault, and this is said further
abbrev pub IsWrong : Fault → Text → Wrong → Type 0
IsWrong f further (Workload g said) = (g ≡ f) × (said.now ≡ further)
IsWrong f further (Journal said) = ⊥
IsWrong f further (Lives said) = ⊥

-- a text is too long, which is said of line 0
pub record IsTooLong (most : ℕ) (text : Text) (line : ℕ) (wrong : Wrong) : Type 0 where
  pub many : most < length text
  pub line_is : line ≡ 0
  pub wrong_is : IsWrong fault.Limit [] wrong

-- the line is no number
pub record IsWrongLine (text : Text) (line : ℕ) (wrong : Wrong) : Type 0 where
  pub no_number : IsNoNumberAt text line
  pub wrong_is : IsWrong fault.Number (line_hint text line) wrong

-- one of two files is too long
abbrev pub AreBadTexts : Option Text → Option Text → ℕ → Wrong → Type 0
AreBadTexts first second line wrong = IfSome first (λ text. IsTooLong text_limit text line wrong) ⊎ IfSome second (λ text. IsTooLong text_limit text line wrong)

-- a file is too long, or a line of it is no number
abbrev pub IsBadList : Option Text → ℕ → Wrong → Type 0
IsBadList told line wrong = IfSome told (λ text. IsTooLong list_limit text line wrong ⊎ IsWrongLine text line wrong)

-- a file was not read
abbrev pub IsUnread : Stop → Type 0
IsUnread stop = (stop ≡ CannotRead) ⊎ (stop ≡ OutOfMemory)
