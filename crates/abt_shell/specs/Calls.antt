-- What a call of a program leaves, by how it ends.
use Rattle.std.specs.Prelude.{◌≡◌, ◌≢◌, ◌++◌, ℕ, [], Option}
use Rattle.abt_machine.specs.Words.{Text}
use Rattle.abt_shell.specs.declared.status.Stop.{Stop}
use Rattle.abt_shell.specs.Status.{Status, Concluded, Stopped, CannotWrite, number_of, stop_text, write_fault_text}
use Rattle.abt_shell.specs.Told.{Gained, GainedPrefix, Grew, IsTold}

-- for reading, output and messages the count of faults and the bytes taken, before and afterwards
pub record Left : Type 0 where
  pub read_faults : ℕ × ℕ
  pub out : Option Text × Option Text
  pub out_faults : ℕ × ℕ
  pub err : Option Text × Option Text
  pub err_faults : ℕ × ℕ

abbrev pub left : ℕ × ℕ → Option Text × Option Text → ℕ × ℕ → Option Text × Option Text → ℕ × ℕ → Left
left read_faults out out_faults err err_faults = record { read_faults = read_faults; out = out; out_faults = out_faults; err = err; err_faults = err_faults }

-- the count of faults of reading is another one
abbrev pub HasReadFault : Left → Type 0
HasReadFault left = left.read_faults.1 ≢ left.read_faults.0

-- no fault of reading came, and none of writing the output
abbrev pub IsStill : Left → Type 0
IsStill left = (Grew left.read_faults → ⊥) × (Grew left.out_faults → ⊥)

-- a program: its name, the exit status of each conclusion to which a command may come, what that prints, why a command is not carried out,
-- and what is said after the line of that stop
pub record Program (C : Type 0) : Type 1 where
  pub name : Text
  pub number : C → ℕ
  pub Prints : C → Text → Type 0
  pub Stops : Stop → Type 0
  pub Adds : Stop → Text → Type 0

-- the command was carried out and came to this, and all that it prints was written
pub record Wrote {C : Type 0} (P : Program C) (left : Left) (conclusion : C) : Type 0 where
  pub text : Text
  pub prints : P.Prints conclusion text
  pub out : Gained left.out text
  pub err : Gained left.err []

-- the command was carried out, a prefix of what it prints was written, and the count of faults of the output rose
pub record WrotePrefix {C : Type 0} (P : Program C) (left : Left) : Type 0 where
  pub conclusion : C
  pub text : Text
  pub prints : P.Prints conclusion text
  pub out : GainedPrefix left.out text
  pub faults : Grew left.out_faults
  pub err : IsTold left.err left.err_faults (write_fault_text P.name)

-- the command was not carried out, and nothing but the message was written: its line, and what is said after that
pub record StoppedBy {C : Type 0} (P : Program C) (left : Left) (stop : Stop) : Type 0 where
  pub cause : P.Stops stop
  pub out : Gained left.out []
  pub more : Text
  pub adds : P.Adds stop more
  pub err : IsTold left.err left.err_faults (P.name ++ (stop_text stop ++ more))

-- what each status says
abbrev pub Holds : {C : Type 0} → Program C → Left → Status C → Type 0
Holds P left (Concluded conclusion) = Wrote P left conclusion
Holds P left (Stopped stop) = StoppedBy P left stop
Holds P left CannotWrite = WrotePrefix P left

-- the call ended with this exit status, which has its cause
abbrev pub EndsBy : {C : Type 0} → Program C → Left → ℕ → Type 0
EndsBy {C} P left n = (status : Status C) × (n ≡ number_of P.number status) × Holds P left status
