-- Local operations: those that change nothing but what the unit carries.
use Rattle.std.specs.Prelude.{ℕ, ◌≡◌, pred, [], ◌∷◌, Option, Some, None, option_map, IsSome}
use Rattle.abt_machine.specs.declared.events.Code.TheVariants as code
use Rattle.abt_machine.specs.declared.operations.Op.{Op}
use Rattle.abt_machine.specs.declared.workload.Parts.{Parts}
use Rattle.abt_machine.specs.Workloads.{op_at}
use Rattle.abt_machine.specs.Carrying.{advanced}
use Rattle.abt_machine.specs.Changes.{no_change}
use Rattle.abt_machine.specs.Codes.{code_of}
use Rattle.abt_machine.specs.Operations.{nature_of}
use Rattle.abt_machine.specs.Plans.{Does, keeps, plan_of}
use Rattle.abt_machine.specs.EventSites.{op_site}
use Rattle.abt_machine.specs.State.{State, Carried}
use Rattle.abt_machine.specs.Steps.{op_row}
use Rattle.abt_machine.specs.Values.{Owned}

-- what a unit carries after a local operation, and nothing for any other
abbrev pub after_local : Op → Carried → Option Carried
after_local a c = option_map (λ (f : Carried → Carried). advanced (f c)) (nature_of a).local

abbrev pub with_carried : Owned → Carried → Owned
with_carried o c = record o { carried = c }

abbrev pub local_step_at : Option Op → Owned → Option Owned
local_step_at None o = None
local_step_at (Some a) o = option_map (with_carried o) (after_local a o.carried)

-- the unit after the operation at its position, if that is a local one
abbrev pub local_step : Parts → Owned → Option Owned
local_step W o = local_step_at (op_at W o.number o.carried.position) o

-- the operation at the unit's position is a local one
abbrev pub IsLocal : Parts → Owned → Type 0
IsLocal W o = IsSome (local_step W o)

-- the unit is at the operation before
abbrev pub back : Carried → Carried
back c = record c { position = pred c.position }

-- operation a leaves unit u, which stream s has in its hand, with this to carry
pub record IsItsRow (W : Parts) (S : State) (s u : ℕ) (a : Op) (c : Carried) : Type 0 where
  -- it touches no object and is not refused
  pub site : op_site W s u a ≡ None
  pub goes_through : code_of W S s u a ≡ code.Ok
  -- the state changes in what the unit carries, and so does the stream, which keeps it in hand
  pub row : op_row W S s u a ≡ record no_change { carried = (u, c) ∷ [] }
  pub plan : (o : Owned) → o.carried ≡ S.carried u → plan_of W s a o ≡ Does (keeps (with_carried o c) [])

-- a local operation is its row of the machine
abbrev pub LocalOperationsAreTheirRows : Type 0
LocalOperationsAreTheirRows =
    (W : Parts) (S : State) (s u : ℕ) (a : Op) (c : Carried) → after_local a (S.carried u) ≡ Some c → IsItsRow W S s u a c
