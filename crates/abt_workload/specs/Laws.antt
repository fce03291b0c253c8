-- What holds of every text, and of every workload's parts.
use Rattle.std.specs.Prelude.{ℕ, ◌≡◌, ◌⊎◌}
use Rattle.abt_machine.specs.declared.program.Fault.{Fault}
use Rattle.abt_machine.specs.declared.workload.Parts.{Parts}
use Rattle.abt_machine.specs.Canonical.{canonical_text}
use Rattle.abt_machine.specs.Grammar.{Reads, Refuses}
use Rattle.abt_machine.specs.Valid.{IsValid}
use Rattle.abt_machine.specs.Words.{Text}

-- a text reads to a workload or is refused
abbrev pub IsReadOrRefused : Text → Type 0
IsReadOrRefused text = ((W : Parts) × Reads text W) ⊎ ((line : ℕ) × (f : Fault) × Refuses text line f)

-- not both
abbrev pub IsNotBoth : Text → Type 0
IsNotBoth text = (W : Parts) (line : ℕ) (f : Fault) → Reads text W → Refuses text line f → ⊥

-- to one workload
abbrev pub ReadsOnce : Text → Type 0
ReadsOnce text = (V W : Parts) → Reads text V → Reads text W → V ≡ W

-- at one line and with one fault
abbrev pub RefusesOnce : Text → Type 0
RefusesOnce text = (k l : ℕ) (f g : Fault) → Refuses text k f → Refuses text l g → (k ≡ l) × (f ≡ g)

-- the canonical text of valid parts reads to them
abbrev pub HasText : Parts → Type 0
HasText W = IsValid W → Reads (canonical_text W) W

-- the parts that a text reads to are valid
abbrev pub ReadsValid : Text → Parts → Type 0
ReadsValid text W = Reads text W → IsValid W
