-- Units that operations name, and events that touch no object but the desk of their own unit.
use Rattle.std.specs.Prelude.{ℕ, ◌≡◌, ◌⊎◌, Bool, false, List, Option, None, Some, slice_get}
use Rattle.abt_machine.specs.declared.events.Code.{Code}
use Rattle.abt_machine.specs.declared.events.Code.TheVariants as code
use Rattle.abt_machine.specs.declared.events.What.{What}
use Rattle.abt_machine.specs.declared.events.What.TheVariants as what
use Rattle.abt_machine.specs.declared.operations.Op.{Op}
use Rattle.abt_machine.specs.declared.operations.Op.TheVariants as op
use Rattle.abt_machine.specs.declared.workload.Parts.{Parts}
use Rattle.abt_machine.specs.EventSites.{step_site}
use Rattle.abt_machine.specs.Numbers.{object_no}
use Rattle.abt_machine.specs.Workloads.{op_at}

-- the unit whose desk the operation calls, if it is not that of the unit which makes it
abbrev pub unit_named : Op → Option ℕ
unit_named (op.Resume v) = Some v.0
unit_named (op.Create v p) = Some v.0
unit_named (op.Join v) = Some v.0
unit_named (op.Cancel v) = Some v.0
unit_named (op.Migrate v p) = Some v.0
unit_named (op.MigrateTo v r) = Some v.0
unit_named (op.Migratable v b) = Some v.0
unit_named (op.Revive v p) = Some v.0
unit_named _ = None

-- an operation of some unit names unit u
abbrev pub IsNamed : Parts → ℕ → Type 0
IsNamed W u = (v : ℕ) × (k : ℕ) × (o : Op) × (op_at W v k ≡ Some o) × (unit_named o ≡ Some u)

-- the table has unit u, and does not mark it
abbrev pub IsUnmarked : List Bool → ℕ → Type 0
IsUnmarked marks u = slice_get marks u ≡ Some false

-- no operation names a unit that the table does not mark
abbrev pub MarksNamed : Parts → List Bool → Type 0
MarksNamed W marks = (u : ℕ) → IsUnmarked marks u → IsNamed W u → ⊥

-- the step is a load of a mutex that its unit owns
abbrev pub IsOwnLoad : Parts → ℕ → ℕ → Code → Type 0
IsOwnLoad W u k c = (x : ℕ) × (op_at W u k ≡ Some (op.Load (object_no x))) × (c ≡ code.Ok)

-- what stream s does touches no object, or only the desk of the unit itself, which no operation names, or it loads the number of a mutex
-- that its unit owns
abbrev pub IsPrivate : Parts → ℕ → What → Type 0
IsPrivate W s (what.Miss p) = ⊥
IsPrivate W s (what.Take p u) = ⊥
IsPrivate W s (what.Look u) = IsNamed W u.0 → ⊥
IsPrivate W s (what.Step u k c) = (step_site W s u.0 k ≡ None) ⊎ IsOwnLoad W u.0 k c
IsPrivate W s (what.Call u k n) = Unit {0}
IsPrivate W s (what.Put u p) = ⊥
IsPrivate W s (what.End u c) = IsNamed W u.0 → ⊥
IsPrivate W s (what.Enter u) = Unit {0}
IsPrivate W s (what.Leave u) = Unit {0}
