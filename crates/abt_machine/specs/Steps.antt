-- What each operation changes when it goes through, and a refused one.
use Rattle.std.specs.Prelude.{ℕ, suc, max, ◌+◌, ◌%◌, ◌^◌, ◌==◌, if◌then◌else◌, Bool, true, List, [], ◌∷◌, ◌++◌, length, map, is_some, Option, Some, None}
use Rattle.abt_machine.specs.declared.events.Code.{Code}
use Rattle.abt_machine.specs.declared.events.Code.TheVariants as code
use Rattle.abt_machine.specs.declared.events.Piece.TheVariants as piece
use Rattle.abt_machine.specs.declared.events.Place.{Place}
use Rattle.abt_machine.specs.declared.events.Place.TheVariants as place
use Rattle.abt_machine.specs.declared.events.Spot.TheVariants as spot
use Rattle.abt_machine.specs.declared.events.Wish.TheVariants as wish
use Rattle.abt_machine.specs.declared.operations.Combine.{Combine}
use Rattle.abt_machine.specs.declared.operations.Combine.TheVariants as combine
use Rattle.abt_machine.specs.declared.operations.Op.{Op}
use Rattle.abt_machine.specs.declared.operations.Op.TheVariants as op
use Rattle.abt_machine.specs.declared.workload.Parts.{Parts}
use Rattle.abt_machine.specs.Numbers.{stream_no, unit_no, object_no, truth}
use Rattle.abt_machine.specs.Workloads.{combine_of, mutex_of, size_of}
use Rattle.abt_machine.specs.Sites.{first_pool}
use Rattle.abt_machine.specs.Queues.{first, first_alone}
use Rattle.abt_machine.specs.Frames.{marked}
use Rattle.abt_machine.specs.Carrying.{added, advanced, calculated, from_key, newborn, printed, refused, with_acc, with_key}
use Rattle.abt_machine.specs.State.{State, Carried, Desk, Mutex, Future, Exited}
use Rattle.abt_machine.specs.Lines.{standing, Waiting}
use Rattle.abt_machine.specs.Codes.{is_full}
use Rattle.abt_machine.specs.Holders.{is_free, read_by, written_by}
use Rattle.abt_machine.specs.Monitors.{number_of}
use Rattle.abt_machine.specs.RwLocks.{left_by, may_read, passed_on, wanting, woken}
use Rattle.abt_machine.specs.Values.{RwLockValue, rwlock_value}
use Rattle.abt_machine.specs.Changes.{Change, no_change, to_tray, waiting_moves, goes_with, goes_on}

abbrev pub set_owner : Option ℕ → Mutex → Mutex
set_owner o m = record m { owner = o }

-- Units and their desks.

-- unit u goes on, and these units go to the tray
abbrev pub wakes : Parts → State → ℕ → ℕ → List ℕ → Change
wakes W S s u us = record (goes_on S u) { moves = to_tray W S s us }

-- unit v begins a life with home p, and is woken
abbrev pub begins : Parts → State → ℕ → ℕ → ℕ → ℕ → Change
begins W S s u v p = record (wakes W S s u (v ∷ [])) {
  carried = (u, advanced (S.carried u)) ∷ (v, newborn p (S.carried v)) ∷ [];
  desks = (v, record (S.desk v) { life = suc (S.desk v).life }) ∷ [];
}

-- the desk of v becomes d
abbrev pub asks : State → ℕ → ℕ → Desk → Change
asks S u v d = record (goes_on S u) { desks = (v, d) ∷ [] }

-- unit u goes on if v has ended, else it joins v
abbrev pub joins : State → ℕ → ℕ → Place → Change
joins S u v (place.Ended c) = goes_on S u
joins S u v _ = record (goes_on S u) { moves = (u, place.Blocked (spot.Join (unit_no v)) (S.join_next v)) ∷ []; join_next = (v, suc (S.join_next v)) ∷ [] }

-- Objects.

-- unit u waits at object x
abbrev pub waits : State → ℕ → ℕ → Change
waits S u x = record (goes_on S u) { moves = (u, place.Blocked (spot.Object (object_no x)) (S.object_next x)) ∷ []; object_next = (x, suc (S.object_next x)) ∷ [] }

-- the mutex is unit u's if it was free, else u waits
abbrev pub locks : State → ℕ → ℕ → Option ℕ → Change
locks S u x None = record (goes_on S u) { mutexes = (x, set_owner (Some u) (S.mutex x)) ∷ [] }
locks S u x (Some v) = waits S u x

-- mutex m goes to the first of its waiters, who is woken, and is free if there is none
abbrev pub hands_over : Parts → State → ℕ → ℕ → ℕ → Change
hands_over W S s u m = record (wakes W S s u (first_alone (standing W S (Waiting m)))) {
  mutexes = (m, set_owner (first (standing W S (Waiting m))) (S.mutex m)) ∷ [];
}

-- unit u waits at condition x, and mutex m is handed over
abbrev pub releases : Parts → State → ℕ → ℕ → ℕ → ℕ → Change
releases W S s u x m = record (hands_over W S s u m) {
  moves = (u, place.Blocked (spot.Object (object_no x)) (S.object_next x)) ∷ to_tray W S s (first_alone (standing W S (Waiting m)));
  object_next = (x, suc (S.object_next x)) ∷ [];
}

-- these units come from a condition to mutex m, in order, each to the back of its waiters
abbrev pub queues : State → ℕ → ℕ → List ℕ → Change
queues S u m vs = record (goes_on S u) { moves = waiting_moves m (S.object_next m) vs; object_next = (m, S.object_next m + length vs) ∷ [] }

-- these units come from a condition to mutex m, in order; if it is free the first of them is its owner and woken
abbrev pub passes : Parts → State → ℕ → ℕ → ℕ → Option ℕ → List ℕ → Change
passes W S s u m o [] = goes_on S u
passes W S s u m (Some v) (w ∷ ws) = queues S u m (w ∷ ws)
passes W S s u m None (w ∷ ws) = record (queues S u m ws) {
  moves = waiting_moves m (S.object_next m) ws ++ to_tray W S s (w ∷ []);
  mutexes = (m, set_owner (Some w) (S.mutex m)) ∷ [];
}

abbrev pub receives : State → ℕ → ℕ → ℕ × Carried
receives S value v = (v, with_acc value (S.carried v))

-- the units that wait at x are woken, each with this value
abbrev pub gives_all : Parts → State → ℕ → ℕ → ℕ → ℕ → Change
gives_all W S s u x value = record (wakes W S s u (standing W S (Waiting x))) {
  carried = (u, advanced (S.carried u)) ∷ map (receives S value) (standing W S (Waiting x));
}

-- unit u gets the value of x if there is one, else it waits at x
abbrev pub awaits : State → ℕ → ℕ → Option ℕ → Change
awaits S u x None = waits S u x
awaits S u x (Some value) = goes_with u (with_acc value (S.carried u))

-- unit u gets 1 if this holds, else 0
abbrev pub learns : State → ℕ → Bool → Change
learns S u b = goes_with u (with_acc (truth b) (S.carried u))

-- the value of a future, if it is ready
abbrev pub ready_value : Parts → State → ℕ → Option ℕ
ready_value W S x = if is_full W S x then Some (S.future x).value else None

-- what a future's rule computes from its values and one more
abbrev pub combined : Combine → Future → ℕ → ℕ
combined combine.Sum f a = (f.value + a) % 2 ^ 64
combined combine.Max f a = max f.value a
combined combine.Count f a = suc f.filled

-- one more compartment is filled
abbrev pub filled_by : Combine → Future → ℕ → Future
filled_by c f a = record { filled = suc f.filled; value = combined c f a }

-- future x becomes f: at its last compartment it is ready, and its waiters are woken with its value
abbrev pub fills : Parts → State → ℕ → ℕ → ℕ → Future → Change
fills W S s u x f = record (if f.filled == size_of W x then gives_all W S s u x f.value else goes_on S u) { futures = (x, f) ∷ [] }

-- the last party of barrier x wakes those that wait, any other waits
abbrev pub arrives : Parts → State → ℕ → ℕ → ℕ → Change
arrives W S s u x = if suc (length (standing W S (Waiting x))) == size_of W x then wakes W S s u (standing W S (Waiting x)) else waits S u x

-- unit u reads lock x, which was this, once more if it may, else it waits and wants to read
abbrev pub reads_or_waits : State → ℕ → ℕ → RwLockValue → Change
reads_or_waits S u x old =
    if may_read u old then record (goes_on S u) { rwlocks = (x, read_by u old.lock) ∷ [] }
    else record (waits S u x) { rwlocks = (x, wanting u wish.Read old.lock) ∷ [] }

-- unit u writes lock x, which was this, if it is free, else it waits and wants to write
abbrev pub writes_or_waits : State → ℕ → ℕ → RwLockValue → Change
writes_or_waits S u x old =
    if is_free old.lock then record (goes_on S u) { rwlocks = (x, written_by u old.lock) ∷ [] }
    else record (waits S u x) { rwlocks = (x, wanting u wish.Write old.lock) ∷ [] }

-- lock x is this after unit u gave it up: if it is free, it goes to the waiters that get it, who are woken
abbrev pub gives_up : Parts → State → ℕ → ℕ → ℕ → RwLockValue → Change
gives_up W S s u x left = record (wakes W S s u (map number_of (woken left))) { rwlocks = (x, (passed_on left).lock) ∷ [] }

-- an operation that goes through
abbrev pub op_row : Parts → State → ℕ → ℕ → Op → Change
op_row W S s u (op.Set n) = goes_with u (with_acc n (S.carried u))
op_row W S s u (op.Add n) = goes_with u (added n (S.carried u))
op_row W S s u (op.Say w) = goes_with u (printed (piece.Said w) (S.carried u))
op_row W S s u op.Print = goes_with u (printed (piece.Number (S.carried u).acc) (S.carried u))
op_row W S s u (op.KeySet k) = goes_with u (with_key k (S.carried u))
op_row W S s u (op.KeyGet k) = goes_with u (from_key k (S.carried u))
op_row W S s u op.Yield = wakes W S s u (u ∷ [])
op_row W S s u (op.YieldTo v p) = record (goes_on S u) { moves = (v.0, place.Next (stream_no s)) ∷ to_tray W S s (u ∷ []) }
op_row W S s u op.Suspend = record (goes_on S u) { moves = (u, place.Blocked spot.Suspended 0) ∷ [] }
op_row W S s u op.Exit = record (goes_on S u) { streams = (s, marked Exited (S.stream s)) ∷ [] }
op_row W S s u (op.Resume v) = wakes W S s u (v.0 ∷ [])
op_row W S s u (op.Create v p) = begins W S s u v.0 p.0
op_row W S s u (op.Join v) = joins S u v.0 (S.place v.0)
op_row W S s u (op.Cancel v) = asks S u v.0 (record (S.desk v.0) { cancel = true })
op_row W S s u (op.Migrate v p) = asks S u v.0 (record (S.desk v.0) { migrate = Some p.0 })
op_row W S s u (op.MigrateTo v r) = asks S u v.0 (record (S.desk v.0) { migrate = Some (first_pool W r.0) })
op_row W S s u (op.Migratable v b) = asks S u v.0 (record (S.desk v.0) { migratable = b })
op_row W S s u (op.Revive v p) = begins W S s u v.0 p.0
op_row W S s u (op.Lock x) = locks S u x.0 (S.mutex x.0).owner
op_row W S s u (op.TryLock x) = record (goes_on S u) { mutexes = (x.0, set_owner (Some u) (S.mutex x.0)) ∷ [] }
op_row W S s u (op.Unlock x) = hands_over W S s u x.0
op_row W S s u (op.Load x) = goes_with u (with_acc (S.mutex x.0).number (S.carried u))
op_row W S s u (op.Store x) = record (goes_on S u) { mutexes = (x.0, record (S.mutex x.0) { number = (S.carried u).acc }) ∷ [] }
op_row W S s u (op.CondWait x) = releases W S s u x.0 (mutex_of W x.0)
op_row W S s u (op.Signal x) = passes W S s u (mutex_of W x.0) (S.mutex (mutex_of W x.0)).owner (first_alone (standing W S (Waiting x.0)))
op_row W S s u (op.Broadcast x) = passes W S s u (mutex_of W x.0) (S.mutex (mutex_of W x.0)).owner (standing W S (Waiting x.0))
op_row W S s u (op.EvWait x) = awaits S u x.0 (S.eventual x.0)
op_row W S s u (op.EvSet x) = record (gives_all W S s u x.0 (S.carried u).acc) { eventuals = (x.0, Some (S.carried u).acc) ∷ [] }
op_row W S s u (op.EvReset x) = record (goes_on S u) { eventuals = (x.0, None) ∷ [] }
op_row W S s u (op.EvTest x) = learns S u (is_some (S.eventual x.0))
op_row W S s u (op.FuWait x) = awaits S u x.0 (ready_value W S x.0)
op_row W S s u (op.FuSet x) = fills W S s u x.0 (filled_by (combine_of W x.0) (S.future x.0) (S.carried u).acc)
op_row W S s u (op.FuReset x) = record (goes_on S u) { futures = (x.0, record { filled = 0; value = 0 }) ∷ [] }
op_row W S s u (op.FuTest x) = learns S u (is_full W S x.0)
op_row W S s u (op.BarWait x) = arrives W S s u x.0
op_row W S s u (op.ReadLock x) = reads_or_waits S u x.0 (rwlock_value W S x.0)
op_row W S s u (op.WriteLock x) = writes_or_waits S u x.0 (rwlock_value W S x.0)
op_row W S s u (op.RwUnlock x) = gives_up W S s u x.0 (left_by u (rwlock_value W S x.0))
op_row W S s u (op.RwLoad x) = goes_with u (with_acc (S.rwlock x.0).number (S.carried u))
op_row W S s u (op.RwStore x) = record (goes_on S u) { rwlocks = (x.0, record (S.rwlock x.0) { number = (S.carried u).acc }) ∷ [] }
op_row W S s u (op.Calc c k) = goes_with u (calculated c k (S.carried u))
-- the step of a call is an event of its own
op_row W S s u (op.Call f) = goes_on S u

-- a step by its code: what its operation changes, or a refusal, which changes nothing but the unit's output and position
abbrev pub step_row : Parts → State → ℕ → ℕ → Option Op → Code → Change
step_row W S s u None c = no_change
step_row W S s u (Some o) code.Ok = op_row W S s u o
step_row W S s u (Some o) c = record no_change { carried = (u, refused c (S.carried u)) ∷ [] }
