-- Which file cannot be read, and why.
use Rattle.std.specs.Prelude.{List, ℕ, Option, Some, None}
use Rattle.abt_source.specs.declared.fault.Blamed.{Blamed}
use Rattle.abt_source.specs.declared.fault.Reason.{Reason}

-- the name of a file that is to blame, and why
abbrev pub blame_of : Blamed → List ℕ × Reason
blame_of blamed = (blamed.name.now, blamed.reason)

-- a name and a reason, if both are there
abbrev pub blame : Option (List ℕ) → Option Reason → Option (List ℕ × Reason)
blame None reason = None
blame (Some name) None = None
blame (Some name) (Some reason) = Some (name, reason)
