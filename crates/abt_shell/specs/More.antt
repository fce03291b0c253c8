-- What a message says after the line of a stop.
use Rattle.std.specs.Prelude.{◌≡◌, ◌⊎◌, ◌++◌, ℕ, [], Option, Some, None, codes}
use Rattle.abt_machine.specs.Words.{Text}
use Rattle.abt_source.specs.declared.fault.Reason.{Reason}
use Rattle.abt_source.specs.declared.fault.Reason.TheVariants as reason
use Rattle.abt_shell.specs.declared.more.More.{More}
use Rattle.abt_shell.specs.declared.more.More.TheVariants.{Nothing, Usage, File, Hint}
use Rattle.abt_shell.specs.declared.status.Stop.{Stop}
use Rattle.abt_shell.specs.declared.status.Stop.TheVariants.{BadWords, BadLine, CannotRead, OutOfMemory}
use Rattle.abt_shell.specs.Status.{hint_of, stop_text}
use Rattle.abt_shell.specs.Told.{IsTold}

-- how a program is called
abbrev pub usage_text : Text → Text
usage_text usage = codes "usage: " ++ usage

-- why a file cannot be read, after its name
abbrev pub reason_line : Reason → Text
reason_line reason.Absent = codes ": absent\n"
reason_line reason.NotAllowed = codes ": not allowed\n"
reason_line reason.Folder = codes ": a folder\n"
reason_line reason.Other = codes ": cannot be read\n"

-- the file that cannot be read, and why
abbrev pub file_text : Text → Reason → Text
file_text name why = name ++ reason_line why

abbrev pub more_text : More → Text
more_text Nothing = []
more_text (Usage usage) = usage_text usage.now
more_text (File name why) = file_text name.now why
more_text (Hint line) = line.now

-- what is said of the file that cannot be read, if it is known
abbrev pub blame_text : Option (Text × Reason) → Text
blame_text None = []
blame_text (Some blame) = file_text blame.0 blame.1

-- what is said after the line of a stop: how the program is called after bad words, what is said further of a line, and which file cannot be
-- read
abbrev pub more_after : Text → Option (Text × Reason) → Stop → Text
more_after usage blame BadWords = usage_text usage
more_after usage blame (BadLine line w) = hint_of w
more_after usage blame CannotRead = blame_text blame
more_after usage blame OutOfMemory = []

-- one of these files is named, and why it cannot be read
abbrev pub IsBlame : (Text → Type 0) → Text → Type 0
IsBlame Names more = (file : Text) × Names file × ((why : Reason) × (more ≡ file_text file why))

-- what a program so called may say after the line of a stop, if it reads these files
abbrev pub Adds : Text → (Text → Type 0) → Stop → Text → Type 0
Adds usage Names BadWords more = more ≡ usage_text usage
Adds usage Names (BadLine line w) more = more ≡ hint_of w
Adds usage Names CannotRead more = (more ≡ []) ⊎ IsBlame Names more
Adds usage Names OutOfMemory more = more ≡ []

-- the message of a stop was written, and what is said after its line, or the message that memory ran out
abbrev pub IsStopTold : Option Text × Option Text → ℕ × ℕ → Text → Stop → Text → Stop → Type 0
IsStopTold sink faults name stop more result =
    ((result ≡ stop) × IsTold sink faults (name ++ (stop_text stop ++ more))) ⊎ ((result ≡ OutOfMemory) × IsTold sink faults (name ++ stop_text OutOfMemory))
