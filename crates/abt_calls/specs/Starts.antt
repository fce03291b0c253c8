-- What streams and objects hold at the start, by value.
use Rattle.std.specs.Prelude.{ℕ, ◌≡◌, ◌<◌, not, Bool, false, List, [], length, map, replicate, count_by, Option, Some, None}
use Rattle.std.specs.List.{filter, range_with_len}
use Rattle.abt_machine.specs.declared.events.Site.{Site}
use Rattle.abt_machine.specs.declared.events.Site.TheVariants as site
use Rattle.abt_machine.specs.declared.events.Wish.TheVariants as wish
use Rattle.abt_machine.specs.declared.operations.Thing.{Thing}
use Rattle.abt_machine.specs.declared.operations.Thing.TheVariants as thing
use Rattle.abt_machine.specs.declared.workload.Parts.{Parts}
use Rattle.abt_machine.specs.Workloads.{IsCondition, body_at, condition_number, is_condition_of, is_sched, kind_of, main_of, mutex_of, start_of, thing_at}
use Rattle.abt_machine.specs.Fronts.{is_some_of}
use Rattle.abt_machine.specs.Frames.{frame_at}
use Rattle.abt_machine.specs.State.{Plain}
use Rattle.abt_machine.specs.Start.{start}
use Rattle.abt_machine.specs.Values.{Owned, owned_at, Held, part_of, PoolValue, Phase, Unborn, Out, DeskValue, Object, PoolIs, DeskIs, MonitorIs, EventualIs, FutureIs, BarrierIs, RwLockIs, NotHere, conditions_of, object_of}

-- the units below n, in order of number, as they are at the start
abbrev pub first_units : Parts → ℕ → List Owned
first_units W n = map (owned_at (start W)) (range_with_len 0 n)

-- the unit starts in pool p
abbrev pub starts_in : Parts → ℕ → Owned → Bool
starts_in W p o = is_some_of p (start_of W o.number)

-- a pool has the units that start there, in order of number
abbrev pub start_pool : Parts → ℕ → PoolValue
start_pool W p = record { kind = kind_of W p; units = filter (starts_in W p) (first_units W (length W.units)) }

-- a unit that starts in no pool is unborn, and the desk of any other is out
abbrev pub start_phase : Owned → Option ℕ → Phase
start_phase o None = Unborn o
start_phase o (Some p) = Out

-- the desk of a unit: nobody joins it, and nothing is asked of it
abbrev pub start_desk : Parts → ℕ → DeskValue
start_desk W u = record {
  number = u;
  sched = is_sched (body_at W u);
  phase = start_phase (owned_at (start W) u) (start_of W u);
  joiners = [];
  cancel = false;
  migrate = None;
  migratable = not (is_sched (body_at W u));
}

-- how many conditions a mutex has
abbrev pub conditions : Parts → ℕ → ℕ
conditions W m = count_by (is_condition_of m) W.objects

-- a mutex is free, its number is 0, and nobody waits at it or at a condition of it
abbrev pub start_monitor : Parts → ℕ → Option Thing → Object
start_monitor W x (Some thing.Mutex) = MonitorIs (record { owner = None; number = 0; waiters = []; conds = replicate (conditions W x) [] })
start_monitor W x _ = NotHere

-- an eventual has no value
abbrev pub start_eventual : Option Thing → Object
start_eventual (Some thing.Eventual) = EventualIs (record { value = None; waiters = [] })
start_eventual _ = NotHere

-- a future has no compartment filled
abbrev pub start_future : Option Thing → Object
start_future (Some (thing.Future n c)) = FutureIs (record { size = n; combine = c; filled = 0; value = 0; waiters = [] })
start_future _ = NotHere

-- nobody waits at a barrier
abbrev pub start_barrier : Option Thing → Object
start_barrier (Some (thing.Barrier n)) = BarrierIs (record { size = n; waiters = [] })
start_barrier _ = NotHere

-- nobody holds a reader-writer lock, each unit has a count there, its number is 0, and nobody waits at it
abbrev pub start_rwlock : Parts → Option Thing → Object
start_rwlock W (Some thing.RwLock) = RwLockIs (record {
  lock = record { writer = None; counts = replicate (length W.units) 0; wishes = replicate (length W.units) wish.Read; number = 0 };
  waiters = [];
})
start_rwlock W _ = NotHere

-- what a declared object is at the start, by its kind; a condition has nothing of its own
abbrev pub start_thing : Parts → ℕ → Option Thing → Object
start_thing W x None = NotHere
start_thing W x (Some thing.Mutex) = start_monitor W x (Some thing.Mutex)
start_thing W x (Some (thing.Cond m)) = NotHere
start_thing W x (Some thing.Eventual) = start_eventual (Some thing.Eventual)
start_thing W x (Some (thing.Future n c)) = start_future (Some (thing.Future n c))
start_thing W x (Some (thing.Barrier n)) = start_barrier (Some (thing.Barrier n))
start_thing W x (Some thing.RwLock) = start_rwlock W (Some thing.RwLock)

-- the object at a site, at the start
abbrev pub start_object : Parts → Site → Object
start_object W (site.Pool p) = PoolIs (start_pool W p.0)
start_object W (site.Desk u) = DeskIs (start_desk W u.0)
start_object W (site.Monitor x) = start_monitor W x.0 (thing_at W x.0)
start_object W (site.Eventual x) = start_eventual (thing_at W x.0)
start_object W (site.Future x) = start_future (thing_at W x.0)
start_object W (site.Barrier x) = start_barrier (thing_at W x.0)
start_object W (site.Rw x) = start_rwlock W (thing_at W x.0)

-- what a stream holds at the start: no unit, and the frame of its main scheduler
abbrev pub start_part : Parts → ℕ → Held
start_part W s = record {
  own = record { mark = Plain; top = frame_at (main_of W s) 0 false; below = [] };
  hand = None;
  next = None;
  tray = [];
  framed = [];
}

-- the objects of the first state are these
abbrev pub ObjectsStart : Type 0
ObjectsStart = (W : Parts) (x : Site) → object_of W (start W) x ≡ start_object W x

-- the streams of the first state are these
abbrev pub PartsStart : Type 0
PartsStart = (W : Parts) (s : ℕ) → part_of W (start W) s ≡ start_part W s

-- a mutex has this many conditions
abbrev pub ConditionsAreCounted : Type 0
ConditionsAreCounted = (W : Parts) (m : ℕ) → length (conditions_of W m) ≡ conditions W m

-- the number of a condition is below the number of its mutex's conditions
abbrev pub ConditionsAreNumbered : Type 0
ConditionsAreNumbered = (W : Parts) (x : ℕ) → IsCondition W x → condition_number W x < conditions W (mutex_of W x)
