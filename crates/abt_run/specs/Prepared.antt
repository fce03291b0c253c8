-- Why a command is not carried out.
use Rattle.std.specs.Prelude.{ℕ, ◌≡◌, ◌⊎◌, ⊤, Option, IfSome}
use Rattle.abt_machine.specs.declared.workload.Parts.{Parts}
use Rattle.abt_machine.specs.Words.{Text}
use Rattle.abt_shell.specs.Fetched.{HasNot, IsNoJournalSo, StopsFor}
use Rattle.abt_shell.specs.Outputs.{IsNoOutputSo}
use Rattle.abt_shell.specs.declared.status.Stop.{Stop}
use Rattle.abt_shell.specs.declared.status.Stop.TheVariants.{CannotRead}
use Rattle.abt_shell.specs.declared.status.Wrong.{Wrong}
use Rattle.abt_shell.specs.declared.status.Wrong.TheVariants.{Workload, Journal, Lives}
use Rattle.abt_workload.specs.Hints.{RefusesSo}
use Rattle.abt_run.specs.Given.{Compares, ComparesOutput, Given, NamesFile, NamesSuch, SaysNothing}
use Rattle.abt_run.specs.Steps.{AsksBeyond, Exceeds}

-- a line of a file that the words name has this wrong
abbrev pub IsBadLine : Given → ℕ → Wrong → Type 0
IsBadLine g line (Workload f said) = NamesSuch g (λ bytes. RefusesSo bytes line f said.now)
IsBadLine g line (Journal said) = ((W : Parts) × Compares g W (λ bytes. IsNoJournalSo bytes line said.now)) ⊎ ((W : Parts) × ComparesOutput g W (λ bytes. IsNoOutputSo bytes line said.now))
IsBadLine g line (Lives said) = ⊥

-- the words are not a command, or ask for more steps than a file allows
abbrev pub IsBadCommand : Given → Type 0
IsBadCommand g = SaysNothing g.words ⊎ AsksBeyond g

-- by the words, the files, and the count of faults of reading before and afterwards
abbrev pub StopsCommand : Given → ℕ × ℕ → Stop → Type 0
StopsCommand g = StopsFor (IsBadCommand g) (NamesFile g.words) (IsBadLine g)

-- One file, by its bytes, if they are observable.

-- a line has this wrong, which keeps the file from being a workload's
abbrev pub IsNoWorkload : Option Text → ℕ → Wrong → Type 0
IsNoWorkload told line (Workload f said) = IfSome told (λ bytes. RefusesSo bytes line f said.now)
IsNoWorkload told line (Journal said) = ⊥
IsNoWorkload told line (Lives said) = ⊥

-- why the file has no workload
abbrev pub HasNoWorkload : Option Text → ℕ × ℕ → Stop → Type 0
HasNoWorkload told = HasNot (IsNoWorkload told)

-- why its workload is not run, if the words ask for this many steps
abbrev pub HasNoRun : Option Text → Option ℕ → ℕ × ℕ → Stop → Type 0
HasNoRun told asked = StopsFor (Exceeds told asked) ⊤ (IsNoWorkload told)

-- two files are to be read, of which the first has the workload: the second cannot be read, or the first has no workload
abbrev pub LacksSecond : Option Text → ℕ × ℕ → Stop → Type 0
LacksSecond told faults stop = (stop ≡ CannotRead) ⊎ HasNoWorkload told faults stop
