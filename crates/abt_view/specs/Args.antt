-- The arguments of the slices of a trace, in JSON.
use Rattle.std.specs.Prelude.{ℕ, ◌==◌, if◌then◌else◌, [], ◌∷◌, ◌++◌, codes, flat_map, Option, Some, None}
use Rattle.abt_machine.specs.declared.events.What.{What}
use Rattle.abt_machine.specs.declared.events.What.TheVariants as what
use Rattle.abt_machine.specs.declared.operations.Op.{Op}
use Rattle.abt_machine.specs.declared.operations.Op.TheVariants as op
use Rattle.abt_machine.specs.declared.workload.Parts.{Parts}
use Rattle.abt_machine.specs.Lives.{unit_of}
use Rattle.abt_machine.specs.Texts.{code_name}
use Rattle.abt_machine.specs.Words.{Text}
use Rattle.abt_view.specs.declared.notes.Note.{Note}
use Rattle.abt_view.specs.Named.{op_of, operation_of, output_of}
use Rattle.abt_view.specs.Texts.{around}

-- Strings.

-- a byte of a string
abbrev pub json_byte : ℕ → Text
json_byte b = if b == 34 then codes "\\\"" else if b == 92 then codes "\\\\" else b ∷ []

abbrev pub json_text : Text → Text
json_text text = flat_map json_byte text

-- Arguments after the unit.

-- the operation, as the workload's text has it
abbrev pub operation_arg : Option Text → Text
operation_arg None = []
operation_arg (Some operation) = codes ",\"operation\":\"" ++ (json_text operation ++ codes "\"")

-- the object of a kind and of a number
abbrev pub object_at : Text → ℕ → Text
object_at kind x = codes ",\"object\":\"" ++ (kind ++ around (codes " ") x (codes "\""))

-- the object that an operation names, as a report says it
abbrev pub object_arg : Op → Text
object_arg (op.Set n) = []
object_arg (op.Add n) = []
object_arg (op.Say w) = []
object_arg op.Print = []
object_arg (op.KeySet k) = []
object_arg (op.KeyGet k) = []
object_arg op.Yield = []
object_arg (op.YieldTo v p) = []
object_arg op.Suspend = []
object_arg op.Exit = []
object_arg (op.Resume v) = []
object_arg (op.Create v p) = []
object_arg (op.Join v) = []
object_arg (op.Cancel v) = []
object_arg (op.Migrate v p) = []
object_arg (op.MigrateTo v s) = []
object_arg (op.Migratable v b) = []
object_arg (op.Revive v p) = []
object_arg (op.Lock x) = object_at (codes "mutex") x.0
object_arg (op.TryLock x) = object_at (codes "mutex") x.0
object_arg (op.Unlock x) = object_at (codes "mutex") x.0
object_arg (op.Load x) = object_at (codes "mutex") x.0
object_arg (op.Store x) = object_at (codes "mutex") x.0
object_arg (op.CondWait x) = object_at (codes "condition") x.0
object_arg (op.Signal x) = object_at (codes "condition") x.0
object_arg (op.Broadcast x) = object_at (codes "condition") x.0
object_arg (op.EvWait x) = object_at (codes "eventual") x.0
object_arg (op.EvSet x) = object_at (codes "eventual") x.0
object_arg (op.EvReset x) = object_at (codes "eventual") x.0
object_arg (op.EvTest x) = object_at (codes "eventual") x.0
object_arg (op.FuWait x) = object_at (codes "future") x.0
object_arg (op.FuSet x) = object_at (codes "future") x.0
object_arg (op.FuReset x) = object_at (codes "future") x.0
object_arg (op.FuTest x) = object_at (codes "future") x.0
object_arg (op.BarWait x) = object_at (codes "barrier") x.0
object_arg (op.ReadLock x) = object_at (codes "rwlock") x.0
object_arg (op.WriteLock x) = object_at (codes "rwlock") x.0
object_arg (op.RwUnlock x) = object_at (codes "rwlock") x.0
object_arg (op.RwLoad x) = object_at (codes "rwlock") x.0
object_arg (op.RwStore x) = object_at (codes "rwlock") x.0
object_arg (op.Calc c k) = []
object_arg (op.Call f) = []

-- that of an event's operation, if there is a workload that has it
abbrev pub object_arg_of : Option Op → Text
object_arg_of None = []
object_arg_of (Some o) = object_arg o

-- what came of an event: the code of a step, and the word that a call returned, as a string, since it may have 64 bits
abbrev pub outcome_arg : What → Text
outcome_arg (what.Miss p) = []
outcome_arg (what.Take p u) = []
outcome_arg (what.Look u) = []
outcome_arg (what.Step u k c) = codes ",\"code\":\"" ++ (code_name c ++ codes "\"")
outcome_arg (what.Call u k n) = around (codes ",\"value\":\"") n (codes "\"")
outcome_arg (what.Put u p) = []
outcome_arg (what.End u c) = []
outcome_arg (what.Enter u) = []
outcome_arg (what.Leave u) = []

-- All arguments.

-- what an event put out, as a string, since it may have 64 bits
abbrev pub output_arg : Option Text → Text
output_arg None = []
output_arg (Some output) = codes ",\"output\":\"" ++ (json_text output ++ codes "\"")

-- those of an event of this unit
abbrev pub args_by : Option Parts → Note → Option ℕ → Text
args_by names n None = []
args_by names n (Some u) =
    around (codes ",\"args\":{\"unit\":") u []
    ++ (operation_arg (operation_of names n.event.what) ++ (object_arg_of (op_of names n.event.what) ++ (outcome_arg n.event.what ++ (output_arg (output_of names n) ++ codes "}"))))

-- those of an event: none if it is of no unit
abbrev pub args_text : Option Parts → Note → Text
args_text names n = args_by names n (unit_of n.event.what)

-- the end of a slice whose name ends with the number of its unit: the number, and the unit as its argument
abbrev pub unit_end : ℕ → Text
unit_end u = around [] u (codes "\",\"args\":{\"unit\":") ++ around [] u (codes "}}")
