-- How a call of a program ends: its exit status, and what is said about it.
use Rattle.std.specs.Prelude.{ℕ, ◌++◌, codes, decimal}
use Rattle.abt_machine.specs.declared.events.Outcome.{Outcome}
use Rattle.abt_machine.specs.declared.events.Outcome.TheVariants as outcome
use Rattle.abt_machine.specs.declared.program.Fault.{Fault}
use Rattle.abt_machine.specs.declared.program.Fault.TheVariants as fault
use Rattle.abt_machine.specs.Words.{Text}
use Rattle.abt_shell.specs.declared.status.Said.{Said}
use Rattle.abt_shell.specs.declared.status.Said.TheVariants.{Fixed, Line}
use Rattle.abt_shell.specs.declared.status.Stop.{Stop}
use Rattle.abt_shell.specs.declared.status.Stop.TheVariants.{BadWords, BadLine, CannotRead, OutOfMemory}
use Rattle.abt_shell.specs.declared.status.Wrong.{Wrong}
use Rattle.abt_shell.specs.declared.status.Wrong.TheVariants as wrong

-- how a call ends whose command comes to one of C, if it is carried out
pub data Status (C : Type 0) : Type 0 where
  -- the command came to this, and all that it prints was written
  Concluded : C → Status C
  -- the command was not carried out
  Stopped : Stop → Status C
  -- not all that the command prints was written
  CannotWrite : Status C

-- Exit statuses.

abbrev pub number_of_outcome : Outcome → ℕ
number_of_outcome outcome.Finished = 0
number_of_outcome outcome.Stuck = 1
number_of_outcome (outcome.Budget s) = 4

abbrev pub number_of_stop : Stop → ℕ
number_of_stop BadWords = 2
number_of_stop (BadLine line w) = 3
number_of_stop CannotRead = 5
number_of_stop OutOfMemory = 7

-- by the exit status of each conclusion
abbrev pub number_of : {C : Type 0} → (C → ℕ) → Status C → ℕ
number_of number (Concluded c) = number c
number_of number (Stopped s) = number_of_stop s
number_of number CannotWrite = 6

-- Messages.

-- what breaks a rule of workload texts, in a word
abbrev pub fault_word : Fault → Text
fault_word fault.Utf8 = codes "utf8"
fault_word fault.Version = codes "version"
fault_word fault.Unknown = codes "unknown"
fault_word fault.Shape = codes "shape"
fault_word fault.Number = codes "number"
fault_word fault.Twice = codes "twice"
fault_word fault.Undeclared = codes "undeclared"
fault_word fault.Limit = codes "limit"
fault_word fault.TaskBlocks = codes "task-blocks"
fault_word fault.Access = codes "access"
fault_word fault.NoEnd = codes "no-end"
fault_word fault.Missing = codes "missing"

-- what is wrong with a line, in a word
abbrev pub wrong_word : Wrong → Text
wrong_word (wrong.Workload f hint) = fault_word f
wrong_word (wrong.Journal hint) = codes "journal"
wrong_word (wrong.Lives hint) = codes "life"

-- and what is said further of it
abbrev pub hint_of : Wrong → Text
hint_of (wrong.Workload f hint) = hint.now
hint_of (wrong.Journal hint) = hint.now
hint_of (wrong.Lives hint) = hint.now

-- what is said about a line, after the name of the program, and what is wrong with it
abbrev pub line_text : ℕ → Text → Text
line_text line word = codes ": line " ++ (decimal line ++ (codes ": " ++ (word ++ codes "\n")))

-- and about a stop
abbrev pub stop_text : Stop → Text
stop_text BadWords = codes ": bad command line\n"
stop_text (BadLine line w) = line_text line (wrong_word w)
stop_text CannotRead = codes ": cannot read\n"
stop_text OutOfMemory = codes ": out of memory\n"

abbrev pub said_text : Said → Text
said_text (Fixed text) = text.now
said_text (Line line word) = line_text line word.now

-- it is said without the number of a line
abbrev pub IsFixed : Said → Type 0
IsFixed (Fixed text) = Unit {0}
IsFixed (Line line word) = ⊥

-- the message of a program of this name that cannot write
abbrev pub write_fault_text : Text → Text
write_fault_text name = name ++ codes ": cannot write\n"
