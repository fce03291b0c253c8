-- The event that words can be those of.
use Rattle.std.specs.Prelude.{ℕ, Bool, if◌then◌else◌, Option, Some, None, codes, ◌==◌}
use Rattle.std.specs.Str.{bytes_eq}
use Rattle.abt_machine.specs.declared.events.Cause.{Cause}
use Rattle.abt_machine.specs.declared.events.Cause.TheVariants as cause
use Rattle.abt_machine.specs.declared.events.Code.{Code}
use Rattle.abt_machine.specs.declared.events.Code.TheVariants as code
use Rattle.abt_machine.specs.declared.events.What.{What}
use Rattle.abt_machine.specs.declared.events.What.TheVariants as what
use Rattle.abt_machine.specs.Numbers.{pool_no, unit_no}
use Rattle.abt_machine.specs.Words.{Text}

-- a word that says what happened, and one number
abbrev pub what_of_one : Text → ℕ → Option What
what_of_one kind n =
    if bytes_eq kind (codes "miss") then Some (what.Miss (pool_no n))
    else if bytes_eq kind (codes "look") then Some (what.Look (unit_no n))
    else if bytes_eq kind (codes "enter") then Some (what.Enter (unit_no n))
    else if bytes_eq kind (codes "leave") then Some (what.Leave (unit_no n))
    else None

-- a word that says what happened, and two numbers
abbrev pub what_of_two : Text → ℕ → ℕ → Option What
what_of_two kind n m =
    if bytes_eq kind (codes "take") then Some (what.Take (pool_no n) (unit_no m))
    else if bytes_eq kind (codes "put") then Some (what.Put (unit_no n) (pool_no m))
    else None

-- the cause of that name
abbrev pub cause_of : Text → Option Cause
cause_of name =
    if bytes_eq name (codes "done") then Some cause.Done
    else if bytes_eq name (codes "asked") then Some cause.Asked
    else if bytes_eq name (codes "access") then Some cause.Access
    else if bytes_eq name (codes "own") then Some cause.Own
    else None

-- the code of that name
abbrev pub code_named : Text → Option Code
code_named name =
    if bytes_eq name (codes "ok") then Some code.Ok
    else if bytes_eq name (codes "pool-access") then Some code.PoolAccess
    else if bytes_eq name (codes "exists") then Some code.Exists
    else if bytes_eq name (codes "unit-state") then Some code.UnitState
    else if bytes_eq name (codes "not-migratable") then Some code.NotMigratable
    else if bytes_eq name (codes "absent") then Some code.Absent
    else if bytes_eq name (codes "mutex-locked") then Some code.MutexLocked
    else if bytes_eq name (codes "not-owner") then Some code.NotOwner
    else if bytes_eq name (codes "eventual-set") then Some code.EventualSet
    else if bytes_eq name (codes "future-full") then Some code.FutureFull
    else if bytes_eq name (codes "rw-held") then Some code.RwHeld
    else if bytes_eq name (codes "rw-full") then Some code.RwFull
    else if bytes_eq name (codes "not-holder") then Some code.NotHolder
    else None

-- a space
abbrev pub is_space : ℕ → Bool
is_space b = b == 32
