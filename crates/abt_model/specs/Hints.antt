-- Hints, which tell the next event of a stream by the pool that it visits and the word that it returns.
use Rattle.std.specs.Prelude.{ℕ, ◌≡◌, ◌≢◌, List, Contains, Option, Some, None, IfSome}
use Rattle.abt_machine.specs.declared.events.What.{What}
use Rattle.abt_machine.specs.declared.numbers.PoolNo.{PoolNo}
use Rattle.abt_machine.specs.declared.operations.Op.{Op}
use Rattle.abt_machine.specs.declared.operations.Op.TheVariants as op
use Rattle.abt_machine.specs.declared.operations.OrderShape.{OrderShape}
use Rattle.abt_machine.specs.Stored.{IsReturned, Returns, Stored}
use Rattle.abt_machine.specs.declared.workload.Parts.{Parts}
use Rattle.abt_machine.specs.Events.{May}
use Rattle.abt_machine.specs.Next.{RoundDue, StepDue, due_of_unit}
use Rattle.abt_machine.specs.Rounds.{IsNextPool}
use Rattle.abt_machine.specs.State.{Frame, Mark, State}
use Rattle.abt_machine.specs.Turns.{due_of}
use Rattle.abt_machine.specs.Values.{Held, Owned}
use Rattle.abt_machine.specs.Workloads.{body_at, op_at}
use Rattle.abt_order.specs.Schedulers.{pool_numbers}
use Rattle.abt_bounds.specs.Laws.{returned, visited}
use Rattle.abt_model.specs.Models.{IsDone, ModelValue}

-- the hint tells the event: both visit the same pool, if they visit any, and return the same word, if they return any
abbrev pub IsHint : What → What → Type 0
IsHint hint w = (visited hint ≡ visited w) × (returned hint ≡ returned w)

-- the event that stream s made in state S, if it made one; an event that may come and that the hint tells was made
pub record IsMade (W : Parts) (Z : Stored) (n : ℕ) (S : State) (s : ℕ) (hint : What) (made : Option What) (new : ModelValue) : Type 0 where
  pub done : IfSome made (λ w. IsDone W Z n S s w new)
  pub told : (w : What) → May W Z S s w → IsHint hint w → made ≡ Some w

-- an event of stream s that the hint tells may come in state S
abbrev pub TellsSome : Parts → Stored → State → ℕ → What → Type 0
TellsSome W Z S s hint = (w : What) × May W Z S s w × IsHint hint w

-- one of the hints tells each event of stream s that may come in state S
abbrev pub HasHints : Parts → Stored → State → ℕ → List What → Type 0
HasHints W Z S s hints = (w : What) → May W Z S s w → (hint : What) × Contains hints hint × IsHint hint w

-- Units in hand.

-- unit o with mark m, in the hand of stream s, is to call function f
abbrev pub IsToCall : Parts → ℕ → Mark → Owned → ℕ → Type 0
IsToCall W s m o f = (due_of_unit W s m (body_at W o.number) o.carried.position ≡ StepDue) × (op_at W o.number o.carried.position ≡ Some (op.Call f))

-- it is to call this function, or none
abbrev pub CallsNext : Parts → ℕ → Mark → Owned → Option ℕ → Type 0
CallsNext W s m o (Some f) = IsToCall W s m o f
CallsNext W s m o None = (f : ℕ) → IsToCall W s m o f → ⊥

-- its next event may return this word, if it is a call, by what functions return
abbrev pub MayReturn : Parts → (ℕ → ℕ → ℕ → List ℕ → Option ℕ) → ℕ → Mark → Owned → Option ℕ → Type 0
MayReturn W returns s m o (Some n) = (f : ℕ) × IsToCall W s m o f × IsReturned (returns f o.number o.carried.acc o.carried.keys) n
MayReturn W returns s m o None = CallsNext W s m o None

-- it is to call function f, which may return any word
abbrev pub MayReturnAny : Parts → (ℕ → ℕ → ℕ → List ℕ → Option ℕ) → ℕ → Mark → Owned → ℕ → Type 0
MayReturnAny W returns s m o f = IsToCall W s m o f × (returns f o.number o.carried.acc o.carried.keys ≡ None)

-- Streams.

-- unit o in the hand of stream s is to call function f
abbrev pub HoldsCall : Parts → ℕ → Held → Owned → ℕ → Type 0
HoldsCall W s held o f = (held.hand ≡ Some o) × (due_of W s held ≡ StepDue) × (op_at W o.number o.carried.position ≡ Some (op.Call f))

-- by what stream s holds an event may be next that visits this pool and returns this word, if any
abbrev pub MayBeTold : Parts → Stored → ℕ → Held → Option ℕ → Option ℕ → Type 0
MayBeTold W Z s held (Some p) None = (due_of W s held ≡ RoundDue) × IsNextPool W Z.orders held.own.top p
MayBeTold W Z s held None (Some n) = (o : Owned) × (due_of W s held ≡ StepDue) × (held.hand ≡ Some o) × Returns Z (op_at W o.number o.carried.position) o.number o.carried n
MayBeTold W Z s held None None = (due_of W s held ≢ RoundDue) × ((o : Owned) (f : ℕ) → HoldsCall W s held o f → ⊥)
MayBeTold W Z s held (Some p) (Some n) = ⊥

-- one of the hints visits this pool and returns this word, if any
abbrev pub Tell : List What → Option ℕ → Option ℕ → Type 0
Tell hints pool word = (hint : What) × Contains hints hint × (visited hint ≡ pool) × (returned hint ≡ word)

-- the hints tell each event that may be next by what stream s holds
abbrev pub AreHints : Parts → Stored → ℕ → Held → List What → Type 0
AreHints W Z s held hints = (pool word : Option ℕ) → MayBeTold W Z s held pool word → Tell hints pool word

-- the function that the operation calls, if it is a call
abbrev pub function_of : Option Op → Option ℕ
function_of (Some (op.Call f)) = Some f
function_of _ = None

-- one of the hints returns each word that function f may return for unit o
abbrev pub TellCall : (ℕ → ℕ → ℕ → List ℕ → Option ℕ) → ℕ → Owned → List What → Type 0
TellCall returns f o hints = (n : ℕ) → IsReturned (returns f o.number o.carried.acc o.carried.keys) n → Tell hints None (Some n)

-- one of the hints returns each word that the next event of unit o may, if it is a call, and else one returns none
abbrev pub TellRuns : Parts → (ℕ → ℕ → ℕ → List ℕ → Option ℕ) → ℕ → Mark → Owned → List What → Type 0
TellRuns W returns s m o hints = (word : Option ℕ) → MayReturn W returns s m o word → Tell hints None word

-- one of the hints visits each pool that may be next in the frame's round
abbrev pub TellVisits : Parts → List OrderShape → Frame → List What → Type 0
TellVisits W orders f hints = (p : ℕ) → IsNextPool W orders f p → Tell hints (Some p) None

-- one of the hints visits each of the pools that was not seen
abbrev pub TellUnseen : List PoolNo → List PoolNo → List What → Type 0
TellUnseen pools seen hints = (p : ℕ) → Contains (pool_numbers pools) p → (Contains (pool_numbers seen) p → ⊥) → Tell hints (Some p) None
