-- What a call of the program is given, and what its words ask for.
use Rattle.std.specs.Prelude.{◌≡◌, ◌⊎◌, List, Option, Some, None, IfSome}
use Rattle.abt_machine.specs.Stored.{Stored}
use Rattle.abt_machine.specs.declared.workload.Parts.{Parts}
use Rattle.abt_machine.specs.Grammar.{Reads}
use Rattle.abt_machine.specs.Words.{Text}
use Rattle.abt_words.specs.declared.commands.CheckWords.{CheckWords}
use Rattle.abt_words.specs.declared.commands.Command.{Command}
use Rattle.abt_words.specs.declared.commands.Command.TheVariants as command
use Rattle.abt_words.specs.declared.commands.OutputWords.{OutputWords}
use Rattle.abt_words.specs.Commands.{Says}

-- the words, the stored orders and functions, and the bytes of each file, if they are observable
pub record Given : Type 0 where
  pub words : List Text
  pub stored : Stored
  pub file : Text → Option Text

abbrev pub given : List Text → Stored → (Text → Option Text) → Given
given words stored file = record { words = words; stored = stored; file = file }

-- the words are not a command
abbrev pub SaysNothing : List Text → Type 0
SaysNothing words = (c : Command) → Says words c → ⊥

-- Files.

-- the file of the command's workload, if it names one
abbrev pub workload_file : Command → Option Text
workload_file (command.Run w) = Some w.file
workload_file (command.SelfRun units) = None
workload_file (command.Check w) = Some w.workload
workload_file (command.CheckOutput w) = Some w.workload
workload_file (command.Flow file) = Some file
workload_file (command.Explore w) = Some w.file
workload_file command.Help = None
workload_file command.Version = None

-- the words name a file with a workload
pub record NamesFile (words : List Text) : Type 0 where
  pub command : Command
  pub file : Text
  pub says : Says words command
  pub names : workload_file command ≡ Some file

-- this is a file of the command
abbrev pub IsFileOf : Command → Text → Type 0
IsFileOf (command.Run w) file = file ≡ w.file
IsFileOf (command.SelfRun units) file = ⊥
IsFileOf (command.Check w) file = (file ≡ w.workload) ⊎ (file ≡ w.journal)
IsFileOf (command.CheckOutput w) file = (file ≡ w.workload) ⊎ (file ≡ w.output)
IsFileOf (command.Flow flow) file = file ≡ flow
IsFileOf (command.Explore w) file = file ≡ w.file
IsFileOf command.Help file = ⊥
IsFileOf command.Version file = ⊥

-- the words name this file
abbrev pub IsNamed : List Text → Text → Type 0
IsNamed words file = (c : Command) × Says words c × IsFileOf c file

-- and this holds of its bytes, if they are observable
pub record NamesSuch (g : Given) (Is : Text → Type 0) : Type 0 where
  pub named : NamesFile g.words
  pub is : IfSome (g.file named.file) Is

-- the bytes of the file are observable, and this holds of them
abbrev pub Tells : Given → Text → (Text → Type 0) → Type 0
Tells g file Is = (bytes : Text) × (g.file file ≡ Some bytes) × Is bytes

-- W is the workload of the file
abbrev pub IsReadFrom : Given → Text → Parts → Type 0
IsReadFrom g file W = IfSome (g.file file) (λ bytes. Reads bytes W)

-- the words ask to compare a workload, which is W, with a journal, of whose bytes this holds, if they are observable
pub record Compares (g : Given) (W : Parts) (Is : Text → Type 0) : Type 0 where
  pub asked : CheckWords
  pub says : Says g.words (command.Check asked)
  pub reads : IsReadFrom g asked.workload W
  pub is : IfSome (g.file asked.journal) Is

-- and this is the same of an output
pub record ComparesOutput (g : Given) (W : Parts) (Is : Text → Type 0) : Type 0 where
  pub asked : OutputWords
  pub says : Says g.words (command.CheckOutput asked)
  pub reads : IsReadFrom g asked.workload W
  pub is : IfSome (g.file asked.output) Is
