-- What is read off objects.
use Rattle.std.specs.Prelude.{ℕ, ◌≡◌, ◌≢◌, ◌<◌, ⊤, Bool, false, is_some, not, List, [], length, slice_get, Option, Some, None, Contains}
use Rattle.std.specs.Borrow.{Bor}
use Rattle.std.specs.List.{All}
use Rattle.abt_machine.specs.declared.events.Shown.{Shown}
use Rattle.abt_machine.specs.declared.events.Site.{Site}
use Rattle.abt_machine.specs.declared.operations.Thing.{Thing}
use Rattle.abt_machine.specs.declared.operations.Thing.TheVariants as thing
use Rattle.abt_machine.specs.Workloads.{condition_number, thing_at}
use Rattle.abt_machine.specs.Values.{Object, Owned, PoolIs, DeskIs, MonitorIs, EventualIs, FutureIs, BarrierIs, RwLockIs, NotHere}
use Rattle.abt_machine.specs.Futures as future
use Rattle.abt_machine.specs.Desks.{is_living}
use Rattle.abt_machine.specs.Monitors.{at_condition}
use Rattle.abt_machine.specs.Pools.{is_unit}
use Rattle.abt_unit.specs.Units.{UnitValue}
use Rattle.abt_calls.specs.Asking.{IsSite}
use Rattle.abt_calls.specs.Showing.{Row, rows_of_object}
use Rattle.abt_commons.specs.Held.{ObjectsValue, object_at, object_from}
use Rattle.abt_commons.specs.Sites.{thing_number}

-- the object is a pool
abbrev pub IsPool : Object → Type 0
IsPool (PoolIs pool) = ⊤
IsPool (DeskIs desk) = ⊥
IsPool (MonitorIs m) = ⊥
IsPool (EventualIs e) = ⊥
IsPool (FutureIs f) = ⊥
IsPool (BarrierIs b) = ⊥
IsPool (RwLockIs l) = ⊥
IsPool NotHere = ⊥

-- the object is a desk
abbrev pub IsDesk : Object → Type 0
IsDesk (PoolIs pool) = ⊥
IsDesk (DeskIs desk) = ⊤
IsDesk (MonitorIs m) = ⊥
IsDesk (EventualIs e) = ⊥
IsDesk (FutureIs f) = ⊥
IsDesk (BarrierIs b) = ⊥
IsDesk (RwLockIs l) = ⊥
IsDesk NotHere = ⊥

-- the object is a mutex with a condition of number k
abbrev pub HasCondition : ℕ → Object → Type 0
HasCondition k (PoolIs pool) = ⊥
HasCondition k (DeskIs desk) = ⊥
HasCondition k (MonitorIs m) = k < length m.conds
HasCondition k (EventualIs e) = ⊥
HasCondition k (FutureIs f) = ⊥
HasCondition k (BarrierIs b) = ⊥
HasCondition k (RwLockIs l) = ⊥
HasCondition k NotHere = ⊥

-- the eventual or the future is ready
abbrev pub is_ready : Object → Bool
is_ready (PoolIs pool) = false
is_ready (DeskIs desk) = false
is_ready (MonitorIs m) = false
is_ready (EventualIs e) = is_some e.value
is_ready (FutureIs f) = future.is_ready f
is_ready (BarrierIs b) = false
is_ready (RwLockIs l) = false
is_ready NotHere = false

-- the object is a desk whose unit is there, unborn or ended
abbrev pub is_over : Object → Bool
is_over (PoolIs pool) = false
is_over (DeskIs desk) = not (is_living desk.phase)
is_over (MonitorIs m) = false
is_over (EventualIs e) = false
is_over (FutureIs f) = false
is_over (BarrierIs b) = false
is_over (RwLockIs l) = false
is_over NotHere = false

-- Units that objects hold, each with what a report shows of its place.

-- of the units at a site
abbrev pub rows_at_site : ObjectsValue → Site → List Row
rows_at_site held x = rows_of_object held.workload x (object_at held x)

-- the objects hold unit u, with this row
pub record IsHeldAs (held : ObjectsValue) (u : ℕ) (row : Row) : Type 0 where
  pub site : Site
  pub declared : IsSite held.workload site
  pub there : Contains (rows_at_site held site) row
  pub number : row.1.number ≡ u

-- the objects hold no unit u
abbrev pub HoldNone : ObjectsValue → ℕ → Type 0
HoldNone held u = (x : Site) → IsSite held.workload x → All (λ (row : Row). row.1.number ≢ u) (rows_at_site held x)

-- the row is of unit u
abbrev pub is_row_of : ℕ → Row → Bool
is_row_of u row = is_unit u row.1

-- the unit that was found, if one was, with what a report shows of it
abbrev pub row_found : Option (Shown × Bor UnitValue) → Option Row
row_found None = None
row_found (Some found) = Some (found.0, found.1.now.owned)

-- units that wait for the object itself, if it is of the thing's kind
abbrev pub waiters_as : Thing → Object → List Owned
waiters_as thing.Mutex (MonitorIs m) = m.waiters
waiters_as thing.Mutex object = []
waiters_as (thing.Cond m) object = []
waiters_as thing.Eventual (EventualIs e) = e.waiters
waiters_as thing.Eventual object = []
waiters_as (thing.Future n c) (FutureIs f) = f.waiters
waiters_as (thing.Future n c) object = []
waiters_as (thing.Barrier n) (BarrierIs b) = b.waiters
waiters_as (thing.Barrier n) object = []
waiters_as thing.RwLock (RwLockIs l) = l.waiters
waiters_as thing.RwLock object = []

-- those at condition k of a monitor
abbrev pub waiters_of_condition : ℕ → Object → List Owned
waiters_of_condition k (MonitorIs m) = at_condition k m
waiters_of_condition k object = []

-- the object of a thing
abbrev pub object_of_thing : ObjectsValue → ℕ → Object
object_of_thing held x = object_from (slice_get held.objects (thing_number held.workload x))

-- units that wait at a thing; at a condition they are with its mutex
abbrev pub waiters_by : ObjectsValue → ℕ → Option Thing → List Owned
waiters_by held x None = []
waiters_by held x (Some (thing.Cond m)) = waiters_of_condition (condition_number held.workload x) (object_of_thing held m.0)
waiters_by held x (Some t) = waiters_as t (object_of_thing held x)

abbrev pub waiters_at_thing : ObjectsValue → ℕ → List Owned
waiters_at_thing held x = waiters_by held x (thing_at held.workload x)
