-- Why a text was not read.
use Rattle.std.specs.Prelude.{ℕ, ◌≡◌, ◌==◌, List, None, find, true, ⊤}
use Rattle.abt_machine.specs.Faults.{faults}
use Rattle.abt_machine.specs.Spelling.{lines_of}
use Rattle.abt_machine.specs.Declaring.{Above}
use Rattle.abt_machine.specs.Grammar.{Refuses, declared_by, has_at}
use Rattle.abt_machine.specs.Words.{Text}
use Rattle.abt_workload.specs.declared.reading.NotRead.{NotRead}
use Rattle.abt_workload.specs.declared.reading.NotRead.TheVariants as cause

-- a refused line has its fault; out of memory claims nothing
abbrev pub IsCause : Text → NotRead → Type 0
IsCause text (cause.Refused line f) = Refuses text line f
IsCause text cause.Memory = ⊤

-- this is what some lines declare
abbrev pub IsFirm : Above → Type 0
IsFirm a = (lines : List Text) × (a ≡ declared_by lines)

-- this is what the lines of a text declare, and none of its lines has a fault
pub record IsSeen (text : Text) (a : Above) : Type 0 where
  pub declared : a ≡ declared_by (lines_of text)
  pub faultless : (i : ℕ) → find (has_at (lines_of text) i) faults ≡ None
  pub ended : (a.section == 10) ≡ true
