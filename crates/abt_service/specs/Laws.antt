-- Whom an object serves. W is a workload and Z what is stored beside it; each law supposes that W is valid and that each user scheduler's order is stored.
use Rattle.std.specs.Prelude.{ℕ, suc, ◌≡◌, ◌≢◌, ◌≤◌, ◌==◌, Bool, true, false, IsSome, List, [], ◌∷◌, ◌++◌, count_by, drop, length, slice_get, Option, Some}
use Rattle.abt_machine.specs.declared.events.Code.{Code}
use Rattle.abt_machine.specs.declared.events.Code.TheVariants as code
use Rattle.abt_machine.specs.declared.events.Event.{Event}
use Rattle.abt_machine.specs.declared.events.What.{What}
use Rattle.abt_machine.specs.declared.events.What.TheVariants as what
use Rattle.abt_machine.specs.declared.operations.Op.{Op}
use Rattle.abt_machine.specs.declared.operations.Op.TheVariants as op
use Rattle.abt_machine.specs.Stored.{Stored}
use Rattle.abt_machine.specs.declared.workload.Parts.{Parts}
use Rattle.abt_machine.specs.Numbers.{object_no}
use Rattle.abt_machine.specs.Workloads.{mutex_of, op_at, size_of}
use Rattle.abt_machine.specs.Operations.{IsMutex, IsRwLock}
use Rattle.abt_machine.specs.Holders.{count_of}
use Rattle.abt_machine.specs.Valid.{IsValid}
use Rattle.abt_machine.specs.Rounds.{OrdersStored}
use Rattle.abt_machine.specs.Queues.{first, first_alone}
use Rattle.abt_machine.specs.State.{State}
use Rattle.abt_machine.specs.Lines.{InTray, Waiting, standing}
use Rattle.abt_machine.specs.Events.{After}
use Rattle.abt_machine.specs.Runs.{Run, last_state, state_at}
use Rattle.abt_machine.specs.Sound.{Sound}

-- by this event operation o of unit u goes through
abbrev pub GoesThrough : Parts → ℕ → Op → What → Type 0
GoesThrough W u o (what.Step v k c) = (v.0 ≡ u) × (op_at W v.0 k ≡ Some o) × (c ≡ code.Ok)
GoesThrough W u o _ = ⊥

-- in sound state S, operation o of unit u goes through by event e, which leads to T
abbrev pub Does : Parts → Stored → State → Event → State → ℕ → Op → Type 0
Does W Z S e T u o = Sound W Z S × After W Z S e T × GoesThrough W u o e.what

-- who waits at object x, in order of arrival
abbrev pub waiters : Parts → State → ℕ → List ℕ
waiters W S x = standing W S (Waiting x)

-- by an event of stream s from S to T all that waited at x are woken: nobody waits there, and they are in the stream's tray, in their order
abbrev pub WakesAll : Parts → State → State → ℕ → ℕ → Type 0
WakesAll W S T s x = (waiters W T x ≡ []) × (standing W T (InTray s) ≡ waiters W S x)

-- by an event from S to T unit u comes to wait at x, behind those that wait
abbrev pub WaitsBehind : Parts → State → State → ℕ → ℕ → Type 0
WaitsBehind W S T u x = waiters W T x ≡ waiters W S x ++ u ∷ []

-- in each state of a run, if a reader-writer lock has a writer, no unit reads it
abbrev pub ReadersExcludeWriters : Parts → Stored → Type 0
ReadersExcludeWriters W Z = IsValid W → OrdersStored W Z.orders → (J : List Event) (i x u : ℕ) → Run W Z J → IsRwLock W x →
    IsSome ((state_at W J i).rwlock x).writer → count_of u ((state_at W J i).rwlock x) ≡ 0

-- an `eset` that goes through wakes all that wait for the eventual
abbrev pub SetWakesAll : Parts → Stored → Type 0
SetWakesAll W Z = IsValid W → OrdersStored W Z.orders → (S T : State) (e : Event) (u x : ℕ) → Does W Z S e T u (op.EvSet (object_no x)) → WakesAll W S T e.stream.0 x

-- an `fset` that fills the last compartment of a future wakes all that wait for it
abbrev pub FutureOpens : Parts → Stored → Type 0
FutureOpens W Z = IsValid W → OrdersStored W Z.orders → (S T : State) (e : Event) (u x : ℕ) → Does W Z S e T u (op.FuSet (object_no x)) →
    suc (S.future x).filled ≡ size_of W x → WakesAll W S T e.stream.0 x

-- by an event from S to T whoever waited at x has this value in its accumulator
abbrev pub GivesAll : Parts → State → State → ℕ → ℕ → Type 0
GivesAll W S T x value = (v k : ℕ) → slice_get (waiters W S x) k ≡ Some v → (T.carried v).acc ≡ value

-- an `eset` that goes through gives the eventual the value of its unit, and this value to all that wait for it
abbrev pub SetGivesAll : Parts → Stored → Type 0
SetGivesAll W Z = IsValid W → OrdersStored W Z.orders → (S T : State) (e : Event) (u x : ℕ) → Does W Z S e T u (op.EvSet (object_no x)) →
    (T.eventual x ≡ Some (S.carried u).acc) × GivesAll W S T x (S.carried u).acc

-- an `fset` that fills the last compartment of a future gives the future's value to all that wait for it
abbrev pub FutureGivesAll : Parts → Stored → Type 0
FutureGivesAll W Z = IsValid W → OrdersStored W Z.orders → (S T : State) (e : Event) (u x : ℕ) → Does W Z S e T u (op.FuSet (object_no x)) →
    suc (S.future x).filled ≡ size_of W x → GivesAll W S T x (T.future x).value

-- the last party of a barrier wakes all that wait at it
abbrev pub BarrierOpens : Parts → Stored → Type 0
BarrierOpens W Z = IsValid W → OrdersStored W Z.orders → (S T : State) (e : Event) (u x : ℕ) → Does W Z S e T u (op.BarWait (object_no x)) →
    suc (length (waiters W S x)) ≡ size_of W x → WakesAll W S T e.stream.0 x

-- a party that is not the last waits behind those that wait
abbrev pub BarrierWaits : Parts → Stored → Type 0
BarrierWaits W Z = IsValid W → OrdersStored W Z.orders → (S T : State) (e : Event) (u x : ℕ) → Does W Z S e T u (op.BarWait (object_no x)) →
    suc (length (waiters W S x)) ≢ size_of W x → WaitsBehind W S T u x

-- by an `unlock` that goes through the first waiter becomes the owner and is woken, alone, and the others wait on in their order; without a waiter the mutex is free
abbrev pub HandedInOrder : Parts → Stored → Type 0
HandedInOrder W Z = IsValid W → OrdersStored W Z.orders → (S T : State) (e : Event) (u x : ℕ) → Does W Z S e T u (op.Unlock (object_no x)) →
    ((T.mutex x).owner ≡ first (waiters W S x)) × (standing W T (InTray e.stream.0) ≡ first_alone (waiters W S x)) × (waiters W T x ≡ drop 1 (waiters W S x))

-- a unit that locks a mutex with an owner waits behind those that wait
abbrev pub LocksWaitInOrder : Parts → Stored → Type 0
LocksWaitInOrder W Z = IsValid W → OrdersStored W Z.orders → (S T : State) (e : Event) (u x : ℕ) → Does W Z S e T u (op.Lock (object_no x)) →
    IsSome (S.mutex x).owner → WaitsBehind W S T u x

-- this operation hands mutex x over: an `unlock` of it, or a wait at one of its conditions
abbrev pub releases : Parts → ℕ → Op → Bool
releases W x (op.Unlock y) = y.0 == x
releases W x (op.CondWait y) = mutex_of W y.0 == x
releases W x _ = false

-- an operation, with its code, by which mutex x is handed over
abbrev pub hands_over_by : Parts → ℕ → Option Op → Code → Bool
hands_over_by W x (Some o) code.Ok = releases W x o
hands_over_by W x _ _ = false

-- by this event mutex x is handed over
abbrev pub hands_over : Parts → ℕ → What → Bool
hands_over W x (what.Step u k c) = hands_over_by W x (op_at W u.0 k) c
hands_over W x _ = false

-- how many times mutex x is handed over in a journal
abbrev pub hand_overs : Parts → ℕ → List Event → ℕ
hand_overs W x J = count_by (λ (e : Event). hands_over W x e.what) J

-- from S to T, if mutex x is handed over, the first waiter becomes the owner and the others wait on in their order; if not, the owner stays, all wait on, and whoever comes stands behind them
abbrev pub ServesMutex : Parts → State → State → ℕ → Bool → Type 0
ServesMutex W S T x true = ((T.mutex x).owner ≡ first (waiters W S x)) × (waiters W T x ≡ drop 1 (waiters W S x))
ServesMutex W S T x false = ((us : List ℕ) × (waiters W T x ≡ waiters W S x ++ us)) × ((v : ℕ) → (S.mutex x).owner ≡ Some v → (T.mutex x).owner ≡ Some v)

-- every event serves every mutex so
abbrev pub EventsServe : Parts → Stored → Type 0
EventsServe W Z = IsValid W → OrdersStored W Z.orders → (S T : State) (e : Event) (x : ℕ) → IsMutex W x → Sound W Z S → After W Z S e T → ServesMutex W S T x (hands_over W x e.what)

-- along a run the waiters of a mutex are those that waited before but the first, one for each time that it was handed over, and behind them those that came since
abbrev pub WaitersKeepOrder : Parts → Stored → Type 0
WaitersKeepOrder W Z = IsValid W → OrdersStored W Z.orders → (J K : List Event) (x : ℕ) → IsMutex W x → Run W Z (J ++ K) →
    (us : List ℕ) × (waiters W (last_state W (J ++ K)) x ≡ drop (hand_overs W x K) (waiters W (last_state W J) x) ++ us)

-- as long as a mutex is handed over no more often than units waited, its owner is who owned it, then the first of those that waited, then the second, and so on: nobody who comes later comes before
abbrev pub ServedInOrder : Parts → Stored → Type 0
ServedInOrder W Z = IsValid W → OrdersStored W Z.orders → (J K : List Event) (v x : ℕ) → IsMutex W x → Run W Z (J ++ K) →
    ((last_state W J).mutex x).owner ≡ Some v → hand_overs W x K ≤ length (waiters W (last_state W J) x) →
    ((last_state W (J ++ K)).mutex x).owner ≡ slice_get (v ∷ waiters W (last_state W J) x) (hand_overs W x K)
