-- What contracts see of a stream.
use Rattle.std.specs.Prelude.{ℕ, suc, ◌≡◌, ◌≢◌, ◌<◌, ◌≤◌, ⊤, Bool, true, false, List, [], ◌∷◌, length, map, reverse, Option, Some, None, Box, IsPermutation}
use Rattle.std.specs.List.{All}
use Rattle.std.specs.declared.alloc.Global.{Global}
use Rattle.abt_machine.specs.declared.events.Event.{Event}
use Rattle.abt_machine.specs.declared.numbers.PoolNo.{PoolNo}
use Rattle.abt_machine.specs.declared.numbers.StreamNo.{StreamNo}
use Rattle.abt_machine.specs.Stored.{Stored}
use Rattle.abt_machine.specs.declared.workload.Parts.{Parts}
use Rattle.abt_machine.specs.Rounds.{IsOrder}
use Rattle.abt_machine.specs.State.{Frame, Stream}
use Rattle.abt_machine.specs.Values.{Held, Owned}
use Rattle.abt_machine.specs.Workloads.{pools_of}
use Rattle.abt_calls.specs.Holders.{units_held}
use Rattle.abt_commons.specs.Acts.{owned}
use Rattle.abt_interleave.specs.Histories.{RisesAbove}
use Rattle.abt_order.specs.Schedulers.{IsSchedulerOf, SchedulerValue, pool_numbers}
use Rattle.abt_unit.specs.Fits.{Fits}
use Rattle.abt_unit.specs.Units.{UnitValue}
use Rattle.abt_plans.specs.declared.dues.Mark.{Mark}
use Rattle.abt_plans.specs.Marks.{mark_of}
use Rattle.abt_stream.specs.declared.parts.Current.{Current}
use Rattle.abt_stream.specs.declared.parts.Current.TheVariants as current

-- a frame: its scheduler, its round, and whether its last round ended empty
pub record FrameValue : Type 0 where
  pub scheduler : SchedulerValue
  pub round : ℕ
  pub empty : Bool

-- the order that is held: the list, if its round has begun
abbrev pub order_of : Bool → List PoolNo → List PoolNo
order_of true list = list
order_of false list = []

-- a round that has begun has a pool
abbrev pub IsBegun : Bool → List PoolNo → Type 0
IsBegun true list = list ≢ []
IsBegun false list = ⊤

-- a list that stands is the one that the scheduler remembers
abbrev pub IsStanding : Bool → SchedulerValue → List PoolNo → Type 0
IsStanding true s list = s.fixed ≡ Some list
IsStanding false s list = ⊤

-- room for events, for frames and their units, and for output of the unit in hand
pub record Rooms : Type 0 where
  pub events : ℕ
  pub frames : ℕ
  pub units : ℕ
  pub output : ℕ

-- its number, whether it keeps its events in memory, how many steps it may make, its clock, what it holds, its top frame and those below, the lowest first, the order
-- that it holds for the top frame and how much of it was visited, its log, and its room
pub record StreamValue : Type 0 where
  pub number : StreamNo
  pub keeps : Bool
  pub budget : ℕ
  pub clock : ℕ
  pub held : Held
  pub top : FrameValue
  pub below : List FrameValue
  pub order : List PoolNo
  pub at : ℕ
  pub log : List Event
  pub rooms : Rooms

abbrev pub hand_of : Current → Option Owned
hand_of current.Idle = None
hand_of (current.Taken unit) = None
hand_of (current.Running unit) = Some (owned unit)

abbrev pub next_of : Current → Option Owned
next_of current.Idle = None
next_of (current.Taken unit) = Some (owned unit)
next_of (current.Running unit) = None

abbrev pub spare_of : Current → ℕ
spare_of current.Idle = 0
spare_of (current.Taken unit) = 0
spare_of (current.Running unit) = unit.value.spare

abbrev pub behind_of : Current → List Owned
behind_of current.Idle = []
behind_of (current.Taken unit) = unit.value.behind
behind_of (current.Running unit) = unit.value.behind

-- a frame that has seen these pools in its round
abbrev pub seeing : FrameValue → List PoolNo → Frame
seeing f seen = record { sched = f.scheduler.number; round = f.round; seen = pool_numbers seen; empty = f.empty }

-- a frame with no round under way
abbrev pub resting : FrameValue → Frame
resting f = seeing f []

abbrev pub own_of : Mark → FrameValue → List PoolNo → List FrameValue → Stream
own_of mark top seen below = record { mark = mark_of mark; top = seeing top seen; below = map resting (reverse below) }

abbrev pub stamps : List Event → List ℕ
stamps log = map (λ (e : Event). e.stamp) log

-- the log of a stream: its own events, whose stamps rise to the clock
pub record IsLog (number : StreamNo) (clock : ℕ) (log : List Event) : Type 0 where
  pub rises : RisesAbove 0 (stamps log)
  pub own : All (λ e. e.stream ≡ number) log
  pub past : All (λ e. e.stamp ≤ clock) log

abbrev pub IsFreeUnit : Box UnitValue Global → Type 0
IsFreeUnit unit = unit.value.behind ≡ []

-- an order is held while there is no unit in hand and in Next
abbrev pub IsOrderly : List PoolNo → Current → Type 0
IsOrderly [] c = ⊤
IsOrderly (p ∷ ps) current.Idle = ⊤
IsOrderly (p ∷ ps) (current.Taken unit) = ⊥
IsOrderly (p ∷ ps) (current.Running unit) = ⊥

-- Fitting a workload.

-- the number of the scheduler's next round: one ahead of the frame's if an order is held
abbrev pub ahead : List PoolNo → ℕ → ℕ
ahead [] round = round
ahead (p ∷ ps) round = suc round

-- a frame of a scheduler of W, for which this order is held, after a count of events
pub record IsFrame (W : Parts) (count : ℕ) (order : List PoolNo) (f : FrameValue) : Type 0 where
  pub scheduler : IsSchedulerOf W f.scheduler
  pub round : f.scheduler.round ≡ ahead order f.round
  pub few : f.round ≤ count

-- an order that is held is a permutation of the scheduler's pools
abbrev pub IsOrderFor : Parts → ℕ → List PoolNo → Type 0
IsOrderFor W g order = (order ≢ []) → IsPermutation (pools_of W g) (pool_numbers order)

-- the stream fits W
pub record FitsStream (W : Parts) (s : StreamValue) : Type 0 where
  pub number : s.number.0 < W.streams
  pub top : IsFrame W (length s.log) s.order s.top
  pub below : All (IsFrame W (length s.log) []) s.below
  pub order : IsOrderFor W s.top.scheduler.number s.order
  pub units : All (Fits W) (units_held s.held)

-- an order that is held is one that the round may have
abbrev pub FitsShapes : Parts → Stored → StreamValue → Type 0
FitsShapes W Z s = (s.order ≢ []) → IsOrder W Z.orders s.top.scheduler.number s.top.round (pool_numbers s.order)

abbrev pub IsIdle : StreamValue → Type 0
IsIdle s = (s.held.tray ≡ []) × (s.held.next ≡ None) × (s.held.hand ≡ None)
