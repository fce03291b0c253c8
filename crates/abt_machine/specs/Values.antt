-- What a state is to one stream and to one object: values that hold their units, each with what it carries, in order.
use Rattle.std.specs.Prelude.{ℕ, suc, if◌then◌else◌, Bool, List, [], ◌∷◌, map, Option, Some}
use Rattle.abt_machine.specs.declared.events.Cause.{Cause}
use Rattle.abt_machine.specs.declared.events.Place.{Place}
use Rattle.abt_machine.specs.declared.events.Place.TheVariants as place
use Rattle.abt_machine.specs.declared.events.Site.{Site}
use Rattle.abt_machine.specs.declared.events.Site.TheVariants as site
use Rattle.abt_machine.specs.declared.events.Spot.TheVariants as spot
use Rattle.abt_machine.specs.declared.operations.Combine.{Combine}
use Rattle.abt_machine.specs.declared.operations.Kind.{Kind}
use Rattle.abt_machine.specs.declared.operations.Thing.{Thing}
use Rattle.abt_machine.specs.declared.operations.Thing.TheVariants as thing
use Rattle.abt_machine.specs.declared.workload.Parts.{Parts}
use Rattle.abt_machine.specs.Workloads.{body_at, is_condition_of, is_sched, kind_of, thing_at}
use Rattle.abt_machine.specs.Queues.{first}
use Rattle.abt_machine.specs.State.{State, Stream, Carried, RwLock}
use Rattle.abt_machine.specs.Lines.{Line, InPool, InTray, InHand, InNext, InFrames, Joining, Waiting, standing}

-- a unit, with what it carries
pub record Owned : Type 0 where
  pub number : ℕ
  pub carried : Carried

abbrev pub owned_at : State → ℕ → Owned
owned_at S u = record { number = u; carried = S.carried u }

-- who stands in a line, in order
abbrev pub owned_in : Parts → State → Line → List Owned
owned_in W S l = map (owned_at S) (standing W S l)

-- Streams.

-- what a stream has: its mark and frames, the unit in hand, the unit that was taken and not yet looked at, those on their
-- way to their homes, and the scheduler units of its stacked frames, the lowest first
pub record Held : Type 0 where
  pub own : Stream
  pub hand : Option Owned
  pub next : Option Owned
  pub tray : List Owned
  pub framed : List Owned

abbrev pub part_of : Parts → State → ℕ → Held
part_of W S s = record {
  own = S.stream s;
  hand = first (owned_in W S (InHand s));
  next = first (owned_in W S (InNext s));
  tray = owned_in W S (InTray s);
  framed = owned_in W S (InFrames s);
}

-- Objects.

pub record PoolValue : Type 0 where
  pub kind : Kind
  pub units : List Owned

-- where a desk's own unit is: at the desk, unborn, suspended or ended, or out
pub data Phase : Type 0 where
  Unborn : Owned → Phase
  Out : Phase
  Suspended : Owned → Phase
  Ended : Owned → Cause → Phase

-- one desk per unit: its number, whether it is a scheduler unit, where it is, who joins it, and what is asked of it
pub record DeskValue : Type 0 where
  pub number : ℕ
  pub sched : Bool
  pub phase : Phase
  pub joiners : List Owned
  pub cancel : Bool
  pub migrate : Option ℕ
  pub migratable : Bool

-- a mutex with its number and its waiters, and the waiters of each of its conditions, in order of declaration
pub record MonitorValue : Type 0 where
  pub owner : Option ℕ
  pub number : ℕ
  pub waiters : List Owned
  pub conds : List (List Owned)

pub record EventualValue : Type 0 where
  pub value : Option ℕ
  pub waiters : List Owned

-- a future of that many compartments: how many are filled, and what its rule makes of their values so far
pub record FutureValue : Type 0 where
  pub size : ℕ
  pub combine : Combine
  pub filled : ℕ
  pub value : ℕ
  pub waiters : List Owned

-- a barrier of that many parties
pub record BarrierValue : Type 0 where
  pub size : ℕ
  pub waiters : List Owned

-- a reader-writer lock with its waiters
pub record RwLockValue : Type 0 where
  pub lock : RwLock
  pub waiters : List Owned

pub data Object : Type 0 where
  PoolIs : PoolValue → Object
  DeskIs : DeskValue → Object
  MonitorIs : MonitorValue → Object
  EventualIs : EventualValue → Object
  FutureIs : FutureValue → Object
  BarrierIs : BarrierValue → Object
  RwLockIs : RwLockValue → Object
  NotHere : Object

-- What each object is in a state.

abbrev pub pool_value : Parts → State → ℕ → PoolValue
pool_value W S p = record { kind = kind_of W p; units = owned_in W S (InPool p) }

-- wherever else a unit is, its desk is out
abbrev pub phase_at : Owned → Place → Phase
phase_at o place.Unborn = Unborn o
phase_at o (place.Blocked spot.Suspended t) = Suspended o
phase_at o (place.Ended c) = Ended o c
phase_at o _ = Out

abbrev pub desk_value : Parts → State → ℕ → DeskValue
desk_value W S u = record {
  number = u;
  sched = is_sched (body_at W u);
  phase = phase_at (owned_at S u) (S.place u);
  joiners = owned_in W S (Joining u);
  cancel = (S.desk u).cancel;
  migrate = (S.desk u).migrate;
  migratable = (S.desk u).migratable;
}

-- the numbers of the conditions of mutex m among these things, the first of which has number i
abbrev pub conditions_from : ℕ → ℕ → List Thing → List ℕ
conditions_from m i [] = []
conditions_from m i (t ∷ ts) = if is_condition_of m t then i ∷ conditions_from m (suc i) ts else conditions_from m (suc i) ts

-- the conditions of a mutex, in order of declaration
abbrev pub conditions_of : Parts → ℕ → List ℕ
conditions_of W m = conditions_from m 0 W.objects

abbrev pub waiters_at : Parts → State → ℕ → List Owned
waiters_at W S x = owned_in W S (Waiting x)

abbrev pub monitor_value : Parts → State → ℕ → MonitorValue
monitor_value W S m = record {
  owner = (S.mutex m).owner;
  number = (S.mutex m).number;
  waiters = waiters_at W S m;
  conds = map (waiters_at W S) (conditions_of W m);
}

abbrev pub eventual_value : Parts → State → ℕ → EventualValue
eventual_value W S x = record { value = S.eventual x; waiters = waiters_at W S x }

abbrev pub future_value : Parts → State → ℕ → ℕ → Combine → FutureValue
future_value W S x n c = record { size = n; combine = c; filled = (S.future x).filled; value = (S.future x).value; waiters = waiters_at W S x }

abbrev pub barrier_value : Parts → State → ℕ → ℕ → BarrierValue
barrier_value W S x n = record { size = n; waiters = waiters_at W S x }

abbrev pub rwlock_value : Parts → State → ℕ → RwLockValue
rwlock_value W S x = record { lock = S.rwlock x; waiters = waiters_at W S x }

-- a monitor, an eventual, a future, a barrier or a reader-writer lock is at its site only if the workload declares it there

abbrev pub monitor_at : Parts → State → ℕ → Option Thing → Object
monitor_at W S x (Some thing.Mutex) = MonitorIs (monitor_value W S x)
monitor_at W S x _ = NotHere

abbrev pub eventual_at : Parts → State → ℕ → Option Thing → Object
eventual_at W S x (Some thing.Eventual) = EventualIs (eventual_value W S x)
eventual_at W S x _ = NotHere

abbrev pub future_at : Parts → State → ℕ → Option Thing → Object
future_at W S x (Some (thing.Future n c)) = FutureIs (future_value W S x n c)
future_at W S x _ = NotHere

abbrev pub barrier_at : Parts → State → ℕ → Option Thing → Object
barrier_at W S x (Some (thing.Barrier n)) = BarrierIs (barrier_value W S x n)
barrier_at W S x _ = NotHere

abbrev pub rwlock_at : Parts → State → ℕ → Option Thing → Object
rwlock_at W S x (Some thing.RwLock) = RwLockIs (rwlock_value W S x)
rwlock_at W S x _ = NotHere

-- the object at a site
abbrev pub object_of : Parts → State → Site → Object
object_of W S (site.Pool p) = PoolIs (pool_value W S p.0)
object_of W S (site.Desk u) = DeskIs (desk_value W S u.0)
object_of W S (site.Monitor x) = monitor_at W S x.0 (thing_at W x.0)
object_of W S (site.Eventual x) = eventual_at W S x.0 (thing_at W x.0)
object_of W S (site.Future x) = future_at W S x.0 (thing_at W x.0)
object_of W S (site.Barrier x) = barrier_at W S x.0 (thing_at W x.0)
object_of W S (site.Rw x) = rwlock_at W S x.0 (thing_at W x.0)
