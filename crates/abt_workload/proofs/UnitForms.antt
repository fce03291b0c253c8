-- What a unit's line is in the table of forms.
use Rattle.std.proofs.Common.{◌≡◌, ◌<◌, ℕ, List, [], ◌∷◌, ◌++◌, Option, Some, None, IfSome, length, refl}
use Rattle.abt_machine.specs.declared.grammar.Form.{Form}
use Rattle.abt_machine.specs.declared.grammar.Form.TheVariants as form
use Rattle.abt_machine.specs.declared.grammar.Format.{Format}
use Rattle.abt_machine.specs.declared.grammar.Number.{Number}
use Rattle.abt_machine.specs.declared.numbers.PoolNo.{PoolNo}
use Rattle.abt_machine.specs.declared.operations.Body.{Body}
use Rattle.abt_machine.specs.declared.operations.Body.TheVariants as body
use Rattle.abt_machine.specs.declared.workload.Parts.{Parts}
use Rattle.abt_machine.specs.declared.workload.UnitPart.{UnitPart}
use Rattle.abt_machine.specs.Canonical.{body_numbers, role_of, start_numbers, unit_header}
use Rattle.abt_machine.specs.Declaring.{declared_units, start_with, unit_with}
use Rattle.abt_machine.specs.Faults.{values}
use Rattle.abt_machine.specs.Forms.{slots}
use Rattle.abt_machine.specs.Valid.{IsBody}
use Rattle.abt_workload.proofs.Filled.{IsWritten, blank, given}
use Rattle.abt_workload.proofs.Fitting.{AreMet}
use Rattle.abt_workload.proofs.OperationLines.{body_like}
use Rattle.abt_workload.proofs.Reaching.{reached}

-- a unit's form
abbrev pub unit_form : Body → Option PoolNo → Form
unit_form b start = blank (form.Unit (role_of b) start)

-- the numbers of a unit's line
abbrev pub unit_numbers : ℕ → Body → Option PoolNo → List ℕ
unit_numbers u b start = u ∷ body_numbers b ++ start_numbers start

-- the numbers that are read of it, each with what it is
abbrev pub unit_given : ℕ → Body → Option PoolNo → List (Number × ℕ)
unit_given u b start = given (slots (unit_form b start)) (unit_numbers u b start)

-- each unit's line is written of its form
pub unit-written : (u : ℕ) (b : Body) (start : Option PoolNo)
    → IsWritten (unit_form b start) [] (unit_numbers u b start) (unit_header u (record { body = b; start = start }))
unit-written u (body.Ult ops) None = record { words_are = refl; form_is = refl; skipped = refl; plain = refl; chosen = λ e. cc }
unit-written u (body.Ult ops) (Some p) = record { words_are = refl; form_is = refl; skipped = refl; plain = refl; chosen = λ e. cc }
unit-written u _ None = record { words_are = refl; form_is = refl; skipped = refl; plain = refl; chosen = λ e. cc }
unit-written u _ (Some p) = record { words_are = refl; form_is = refl; skipped = refl; plain = refl; chosen = λ e. cc }

-- and declares the unit without its operations
pub unit-made : (u : ℕ) (b : Body) (start : Option PoolNo)
    → unit_with (role_of b) (start_with (role_of b) start []) (values (unit_given u b start)) ≡ record { body = body_like b []; start = start }
unit-made u (body.Ult ops) None = refl
unit-made u (body.Ult ops) (Some p) = refl
unit-made u _ None = refl
unit-made u _ (Some p) = refl

-- its numbers name what is declared
pub unit-met : (F : Format) (W : Parts) (s : ℕ) (units : List UnitPart) (last : Option UnitPart) (before said : List ℕ) (u : ℕ) (b : Body) (start : Option PoolNo)
    → u ≡ declared_units (reached F W s units last before said) → u < length W.units → IsBody (length W.scheds) b → IfSome start (λ (p : PoolNo). p.0 < length W.pools)
    → AreMet (reached F W s units last before said) (unit_given u b start)
unit-met F W s units last before said u (body.Sched g) None e lt kind there = ((e, lt), kind)
unit-met F W s units last before said u (body.Sched g) (Some p) e lt kind there = ((e, lt), (kind, there))
unit-met F W s units last before said u _ None e lt kind there = (e, lt)
unit-met F W s units last before said u _ (Some p) e lt kind there = ((e, lt), there)
