-- In which order reader-writer locks serve. W is a workload and Z what is stored beside it; each law supposes that W is valid and that each user scheduler's order is stored.
use Rattle.std.specs.Prelude.{ℕ, ◌≡◌, ◌≢◌, ◌⊎◌, List, [], ◌++◌, drop, Some}
use Rattle.abt_machine.specs.declared.events.Event.{Event}
use Rattle.abt_machine.specs.declared.operations.Op.TheVariants as op
use Rattle.abt_machine.specs.Stored.{Stored}
use Rattle.abt_machine.specs.declared.workload.Parts.{Parts}
use Rattle.abt_machine.specs.Events.{After}
use Rattle.abt_machine.specs.Holders.{count_of}
use Rattle.abt_machine.specs.Lines.{InTray, standing}
use Rattle.abt_machine.specs.Numbers.{object_no}
use Rattle.abt_machine.specs.Operations.{IsRwLock}
use Rattle.abt_machine.specs.Queues.{first}
use Rattle.abt_machine.specs.Rounds.{OrdersStored}
use Rattle.abt_machine.specs.Runs.{Run, last_state}
use Rattle.abt_machine.specs.Sound.{Sound}
use Rattle.abt_machine.specs.State.{State}
use Rattle.abt_machine.specs.Valid.{IsValid}
use Rattle.abt_service.specs.Laws.{Does, WaitsBehind, waiters}

-- from S to T some of the first that wait at x leave, the others wait on in their order, and whoever comes stands behind them
abbrev pub LeavesFromFront : Parts → State → State → ℕ → Type 0
LeavesFromFront W S T x = (n : ℕ) × (us : List ℕ) × (waiters W T x ≡ drop n (waiters W S x) ++ us)

-- whoever writes lock x in T wrote it in S, or was the first of those that waited, or nobody waited
abbrev pub WritesInTurn : Parts → State → State → ℕ → Type 0
WritesInTurn W S T x = (v : ℕ) → (T.rwlock x).writer ≡ Some v → ((S.rwlock x).writer ≡ Some v) ⊎ ((first (waiters W S x) ≡ Some v) ⊎ (waiters W S x ≡ []))

-- so it is by every event
abbrev pub EventsServeLocks : Parts → Stored → Type 0
EventsServeLocks W Z = IsValid W → OrdersStored W Z.orders → (S T : State) (e : Event) (x : ℕ) → IsRwLock W x → Sound W Z S → After W Z S e T → LeavesFromFront W S T x × WritesInTurn W S T x

-- along a run those that wait for a lock leave from the front
abbrev pub LockWaitersKeepOrder : Parts → Stored → Type 0
LockWaitersKeepOrder W Z = IsValid W → OrdersStored W Z.orders → (J K : List Event) (x : ℕ) → IsRwLock W x → Run W Z (J ++ K) → LeavesFromFront W (last_state W J) (last_state W (J ++ K)) x

-- an `rwunlock` that goes through wakes those that leave, in their order
abbrev pub UnlocksWakeInOrder : Parts → Stored → Type 0
UnlocksWakeInOrder W Z = IsValid W → OrdersStored W Z.orders → (S T : State) (e : Event) (u x : ℕ) → Does W Z S e T u (op.RwUnlock (object_no x)) →
    waiters W S x ≡ standing W T (InTray e.stream.0) ++ waiters W T x

-- if units wait for a lock, a unit that does not read it and wants to waits behind them
abbrev pub ReadersWaitInOrder : Parts → Stored → Type 0
ReadersWaitInOrder W Z = IsValid W → OrdersStored W Z.orders → (S T : State) (e : Event) (u x : ℕ) → Does W Z S e T u (op.ReadLock (object_no x)) →
    count_of u (S.rwlock x) ≡ 0 → waiters W S x ≢ [] → WaitsBehind W S T u x

-- and so does one that wants to write it
abbrev pub WritersWaitInOrder : Parts → Stored → Type 0
WritersWaitInOrder W Z = IsValid W → OrdersStored W Z.orders → (S T : State) (e : Event) (u x : ℕ) → Does W Z S e T u (op.WriteLock (object_no x)) →
    waiters W S x ≢ [] → WaitsBehind W S T u x
