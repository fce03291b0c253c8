-- What the user stores beside a workload: the orders of schedulers, and the functions that units call.
use Rattle.std.specs.Prelude.{ℕ, ◌≡◌, ◌<◌, ◌%◌, ◌^◌, List, Option, Some, None, ⊤}
use Rattle.abt_machine.specs.declared.operations.Op.{Op}
use Rattle.abt_machine.specs.declared.operations.Op.TheVariants as op
use Rattle.abt_machine.specs.declared.operations.OrderShape.{OrderShape}
use Rattle.abt_machine.specs.declared.workload.Parts.{Parts}
use Rattle.abt_machine.specs.State.{Carried}
use Rattle.abt_machine.specs.Workloads.{op_at}

pub record Stored : Type 0 where
  -- the shapes of the orders
  pub orders : List OrderShape
  -- what function f returns for a unit with this number, accumulator and keys, any word if there is none
  pub returns : ℕ → ℕ → ℕ → List ℕ → Option ℕ

-- the operation, if there is one, is no call
abbrev pub IsNoCall : Option Op → Type 0
IsNoCall (Some (op.Call f)) = ⊥
IsNoCall _ = ⊤

-- a word that a call may return
abbrev pub IsReturned : Option ℕ → ℕ → Type 0
IsReturned (Some m) n = n ≡ m % 2 ^ 64
IsReturned None n = n < 2 ^ 64

-- the operation is a call of a function that may return the word n for unit u with this to carry
abbrev pub Returns : Stored → Option Op → ℕ → Carried → ℕ → Type 0
Returns Z (Some (op.Call f)) u c n = IsReturned (Z.returns f u c.acc c.keys) n
Returns Z _ u c n = ⊥

-- each call names one of this many functions
abbrev pub CallsStored : Parts → ℕ → Type 0
CallsStored W count = (u k f : ℕ) → op_at W u k ≡ Some (op.Call f) → f < count
