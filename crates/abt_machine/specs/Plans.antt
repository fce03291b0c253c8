-- What a stream does at a step: by itself, or by a call on one object, and what it makes of the answer.
use Rattle.std.specs.Prelude.{ℕ, if◌then◌else◌, List, [], ◌∷◌, Option, Some, None}
use Rattle.abt_machine.specs.declared.events.Code.{Code}
use Rattle.abt_machine.specs.declared.events.Code.TheVariants as code
use Rattle.abt_machine.specs.declared.events.Piece.TheVariants as piece
use Rattle.abt_machine.specs.declared.events.Site.{Site}
use Rattle.abt_machine.specs.declared.events.Site.TheVariants as site
use Rattle.abt_machine.specs.declared.operations.Op.{Op}
use Rattle.abt_machine.specs.declared.operations.Op.TheVariants as op
use Rattle.abt_machine.specs.declared.workload.Parts.{Parts}
use Rattle.abt_machine.specs.Numbers.{unit_no}
use Rattle.abt_machine.specs.Workloads.{condition_number}
use Rattle.abt_machine.specs.Access.{may_reach}
use Rattle.abt_machine.specs.Sites.{first_pool, monitor_of}
use Rattle.abt_machine.specs.Carrying.{added, calculated, from_key, printed, with_acc, with_key}
use Rattle.abt_machine.specs.State.{Carried}
use Rattle.abt_machine.specs.Values.{Owned}
use Rattle.abt_machine.specs.Acts.{Act, Answer, carrying, moved, received}
use Rattle.abt_machine.specs.Acts as act

-- what a step leaves in the hand and in Next, whom it puts on the tray, and its code
pub record Effect : Type 0 where
  pub hand : Option Owned
  pub next : Option Owned
  pub wakes : List Owned
  pub code : Code

-- the unit stays in the hand, and these go to the tray
abbrev pub keeps : Owned → List Owned → Effect
keeps o os = record { hand = Some o; next = None; wakes = os; code = code.Ok }

-- the unit is in the hand no longer, and these go to the tray
abbrev pub empties : List Owned → Effect
empties os = record { hand = None; next = None; wakes = os; code = code.Ok }

-- the unit, which is past its operation, stays in the hand and notes why it was refused
abbrev pub notes : Owned → Code → Effect
notes o c = record { hand = Some (carrying (printed (piece.Refused c)) o); next = None; wakes = []; code = c }

-- a refused operation of the unit
abbrev pub refusal : Owned → Code → Effect
refusal o c = notes (moved o) c

-- an operation of the unit that changes only what it carries
abbrev pub local : (Carried → Carried) → Owned → Effect
local f o = keeps (moved (carrying f o)) []

-- What an answer brings. The last line of each is for answers that the act never gets.

-- to a unit that stayed in the hand: it goes on, what comes out is woken, and a number is its own
abbrev pub to_caller : Owned → Answer → Effect
to_caller o (act.Given b) = keeps (moved o) (b ∷ [])
to_caller o (act.Woke os) = keeps (moved o) os
to_caller o act.Rested = keeps (moved o) []
to_caller o (act.Number n) = keeps (received n (moved o)) []
to_caller o (act.Coded code.Ok) = keeps (moved o) []
to_caller o (act.Coded c) = refusal o c
to_caller o answer = keeps (moved o) []

-- to a unit that went with the act: it goes on if it comes back, and those that waited for it are woken; a refused unit comes
-- back past its operation; else it waits
abbrev pub to_giver : Answer → Effect
to_giver (act.Given b) = keeps b []
to_giver (act.Through b os) = keeps b os
to_giver act.Rested = empties []
to_giver (act.Back b c) = notes b c
to_giver answer = empties []

-- to a unit that went to a condition: who comes out has the mutex, and is woken; a refused unit comes back past its operation
abbrev pub to_condition : Answer → Effect
to_condition (act.Given b) = empties (b ∷ [])
to_condition act.Rested = empties []
to_condition (act.Back b c) = notes b c
to_condition answer = empties []

-- to a unit that yields to another: the other is taken
abbrev pub to_yielder : Owned → Answer → Effect
to_yielder o (act.Given b) = record { hand = None; next = Some b; wakes = moved o ∷ []; code = code.Ok }
to_yielder o (act.Coded c) = refusal o c
to_yielder o answer = keeps (moved o) []

-- by itself, by a call whose answer brings this, or as the end of a thread, which stays in the hand as it is after its step
pub data Plan : Type 0 where
  Does : Effect → Plan
  Calls : Site → Act → (Answer → Effect) → Plan
  Exits : Owned → Plan

-- an operation that names a pool which the stream must not reach is refused without a call
abbrev pub denied : Owned → Plan
denied o = Does (refusal o code.PoolAccess)

-- what a stream does at an operation of unit o in its hand, if it may reach the pool that the operation names. A unit goes with its
-- act as it is after the step
abbrev pub reached_plan : Parts → Op → Owned → Plan
reached_plan W (op.Set n) o = Does (local (with_acc n) o)
reached_plan W (op.Add n) o = Does (local (added n) o)
reached_plan W (op.Say w) o = Does (local (printed (piece.Said w)) o)
reached_plan W op.Print o = Does (local (printed (piece.Number o.carried.acc)) o)
reached_plan W (op.KeySet k) o = Does (local (with_key k) o)
reached_plan W (op.KeyGet k) o = Does (local (from_key k) o)
reached_plan W op.Yield o = Does (empties (moved o ∷ []))
reached_plan W (op.YieldTo v p) o = Calls (site.Pool p) (act.Remove v.0) (to_yielder o)
reached_plan W op.Suspend o = Calls (site.Desk (unit_no o.number)) (act.Suspend (moved o)) to_giver
reached_plan W op.Exit o = Exits (moved o)
reached_plan W (op.Resume v) o = Calls (site.Desk v) act.Resume (to_caller o)
reached_plan W (op.Create v p) o = Calls (site.Desk v) (act.Create p.0) (to_caller o)
reached_plan W (op.Join v) o = Calls (site.Desk v) (act.Join (moved o)) to_giver
reached_plan W (op.Cancel v) o = Calls (site.Desk v) act.AskCancel (to_caller o)
reached_plan W (op.Migrate v p) o = Calls (site.Desk v) (act.AskMigrate p.0) (to_caller o)
reached_plan W (op.MigrateTo v r) o = Calls (site.Desk v) (act.AskMigrate (first_pool W r.0)) (to_caller o)
reached_plan W (op.Migratable v allowed) o = Calls (site.Desk v) (act.SetMigratable allowed) (to_caller o)
reached_plan W (op.Revive v p) o = Calls (site.Desk v) (act.Revive p.0) (to_caller o)
reached_plan W (op.Lock x) o = Calls (site.Monitor x) (act.Lock (moved o)) to_giver
reached_plan W (op.TryLock x) o = Calls (site.Monitor x) (act.TryLock o.number) (to_caller o)
reached_plan W (op.Unlock x) o = Calls (site.Monitor x) (act.Unlock o.number) (to_caller o)
reached_plan W (op.Load x) o = Calls (site.Monitor x) (act.Load o.number) (to_caller o)
reached_plan W (op.Store x) o = Calls (site.Monitor x) (act.Store o.number o.carried.acc) (to_caller o)
reached_plan W (op.CondWait x) o = Calls (monitor_of W x.0) (act.Wait (condition_number W x.0) (moved o)) to_condition
reached_plan W (op.Signal x) o = Calls (monitor_of W x.0) (act.Signal (condition_number W x.0)) (to_caller o)
reached_plan W (op.Broadcast x) o = Calls (monitor_of W x.0) (act.Broadcast (condition_number W x.0)) (to_caller o)
reached_plan W (op.EvWait x) o = Calls (site.Eventual x) (act.Await (moved o)) to_giver
reached_plan W (op.EvSet x) o = Calls (site.Eventual x) (act.Fill o.carried.acc) (to_caller o)
reached_plan W (op.EvReset x) o = Calls (site.Eventual x) act.Reset (to_caller o)
reached_plan W (op.EvTest x) o = Calls (site.Eventual x) act.Test (to_caller o)
reached_plan W (op.FuWait x) o = Calls (site.Future x) (act.Await (moved o)) to_giver
reached_plan W (op.FuSet x) o = Calls (site.Future x) (act.Fill o.carried.acc) (to_caller o)
reached_plan W (op.FuReset x) o = Calls (site.Future x) act.Reset (to_caller o)
reached_plan W (op.FuTest x) o = Calls (site.Future x) act.Test (to_caller o)
reached_plan W (op.BarWait x) o = Calls (site.Barrier x) (act.Arrive (moved o)) to_giver
reached_plan W (op.ReadLock x) o = Calls (site.Rw x) (act.ReadLock (moved o)) to_giver
reached_plan W (op.WriteLock x) o = Calls (site.Rw x) (act.WriteLock (moved o)) to_giver
reached_plan W (op.RwUnlock x) o = Calls (site.Rw x) (act.RwUnlock o.number) (to_caller o)
reached_plan W (op.RwLoad x) o = Calls (site.Rw x) (act.Load o.number) (to_caller o)
reached_plan W (op.RwStore x) o = Calls (site.Rw x) (act.Store o.number o.carried.acc) (to_caller o)
reached_plan W (op.Calc c k) o = Does (local (calculated c k) o)
-- the step of a call is an event of its own
reached_plan W (op.Call f) o = Does (local (λ c. c) o)

-- what stream s does at an operation of unit o in its hand
abbrev pub plan_of : Parts → ℕ → Op → Owned → Plan
plan_of W s a o = if may_reach W s a then reached_plan W a o else denied o
