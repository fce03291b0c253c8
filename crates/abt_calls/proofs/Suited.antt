-- What an object answers suits the act.
use Rattle.std.proofs.Common.{◌≡◌, ℕ, Bool, true, false, List, [], ◌∷◌, Option, None, Some, option_map, cond, refl, subst}
use Rattle.std.specs.List.{find}
use Rattle.std.proofs.lemmas.Bool.{eqb-true}
use Rattle.abt_machine.specs.declared.events.Code.TheVariants as code
use Rattle.abt_machine.specs.Values.{Owned, PoolIs, DeskIs, MonitorIs, EventualIs, FutureIs, BarrierIs, RwLockIs, NotHere, PoolValue, DeskValue, MonitorValue, EventualValue, FutureValue, BarrierValue, RwLockValue}
use Rattle.abt_machine.specs.Acts.{Act, Put, Take, Remove, Create, End, Join, AskCancel, AskMigrate, Look, Suspend, Resume, Revive, SetMigratable, Lock, TryLock, Unlock, Load, Store, Wait, Signal, Broadcast, Await, Fill, Reset, Test, Arrive, ReadLock, WriteLock, RwUnlock, Answer, Given, Through, Woke, Rested, Miss, Number, Asks, Coded, Back, received}
use Rattle.abt_machine.specs.Pools.{PoolGives, is_unit}
use Rattle.abt_machine.specs.Desks.{DeskGives}
use Rattle.abt_machine.specs.Monitors.{MonitorGives}
use Rattle.abt_machine.specs.Eventuals.{EventualGives}
use Rattle.abt_machine.specs.Futures.{FutureGives}
use Rattle.abt_machine.specs.Barriers.{BarrierGives}
use Rattle.abt_machine.specs.RwLocks.{RwLockGives}
use Rattle.abt_calls.specs.Suits.{Suits, AnswersSuit}

found-by : (u : ℕ) (b : Bool) (x o : Owned) (f : Option Owned) → is_unit u x ≡ b → (f ≡ Some o → o.number ≡ u) → cond b (Some x) f ≡ Some o → o.number ≡ u
found-by u true x o f is go e = let same : x ≡ o = cc in subst (λ q. q.number ≡ u) same (eqb-true x.number u is)
found-by u false x o f is go e = go e

-- a unit that is found by its number has it
pub found-number : (u : ℕ) (os : List Owned) (o : Owned) → find (is_unit u) os ≡ Some o → o.number ≡ u
found-number u [] o e = cc
found-number u (x ∷ xs) o e = found-by u (is_unit u x) x o (find (is_unit u) xs) refl (found-number u xs o) e

pool-suits : (old : PoolValue) (act : Act) (answer : Answer) (new : PoolValue) → PoolGives old act answer new → Suits act answer
pool-suits old (Put o) Rested new gives = tt
pool-suits old (Take d) (Given o) new gives = tt
pool-suits old (Take d) Miss new gives = tt
pool-suits old (Remove u) (Given o) new gives = found-number u old.units o gives.0
pool-suits old (Remove u) (Coded code.Absent) new gives = tt
pool-suits old act answer new gives = absurd gives

desk-suits : (old : DeskValue) (act : Act) (answer : Answer) (new : DeskValue) → DeskGives old act answer new → Suits act answer
desk-suits old (Create p) (Given o) new gives = tt
desk-suits old (Create p) (Coded code.Exists) new gives = tt
desk-suits old (End o cause) (Woke os) new gives = tt
desk-suits old (Join o) (Given b) new gives = gives.1
desk-suits old (Join o) Rested new gives = tt
desk-suits old AskCancel (Coded code.Ok) new gives = tt
desk-suits old AskCancel (Coded code.UnitState) new gives = tt
desk-suits old (AskMigrate p) (Coded code.Ok) new gives = tt
desk-suits old (AskMigrate p) (Coded code.UnitState) new gives = tt
desk-suits old (AskMigrate p) (Coded code.NotMigratable) new gives = tt
desk-suits old Look (Asks cancel migrate) new gives = tt
desk-suits old (Suspend o) Rested new gives = tt
desk-suits old Resume (Given o) new gives = tt
desk-suits old Resume (Coded code.UnitState) new gives = tt
desk-suits old (Revive p) (Given o) new gives = tt
desk-suits old (Revive p) (Coded code.UnitState) new gives = tt
desk-suits old (SetMigratable allowed) (Coded code.Ok) new gives = tt
desk-suits old (SetMigratable allowed) (Coded code.NotMigratable) new gives = tt
desk-suits old act answer new gives = absurd gives

monitor-suits : (old : MonitorValue) (act : Act) (answer : Answer) (new : MonitorValue) → MonitorGives old act answer new → Suits act answer
monitor-suits old (Lock o) (Given b) new gives = gives.1
monitor-suits old (Lock o) Rested new gives = tt
monitor-suits old (TryLock u) (Coded code.Ok) new gives = tt
monitor-suits old (TryLock u) (Coded code.MutexLocked) new gives = tt
monitor-suits old (Unlock u) (Given b) new gives = tt
monitor-suits old (Unlock u) Rested new gives = tt
monitor-suits old (Unlock u) (Coded code.NotOwner) new gives = tt
monitor-suits old (Load u) (Number n) new gives = tt
monitor-suits old (Load u) (Coded code.NotOwner) new gives = tt
monitor-suits old (Store u n) (Coded code.Ok) new gives = tt
monitor-suits old (Store u n) (Coded code.NotOwner) new gives = tt
monitor-suits old (Wait k o) (Given b) new gives = tt
monitor-suits old (Wait k o) Rested new gives = tt
monitor-suits old (Wait k o) (Back b code.NotOwner) new gives = gives.1
monitor-suits old (Signal k) (Given b) new gives = tt
monitor-suits old (Signal k) Rested new gives = tt
monitor-suits old (Broadcast k) (Given b) new gives = tt
monitor-suits old (Broadcast k) Rested new gives = tt
monitor-suits old act answer new gives = absurd gives

-- a unit that has received a value
pub received-by : (value : Option ℕ) (o b : Owned) → option_map (λ n. received n o) value ≡ Some b → (n : ℕ) × (b ≡ received n o)
received-by None o b e = cc
received-by (Some n) o b e = let same : b ≡ received n o = cc in (n, same)

eventual-suits : (old : EventualValue) (act : Act) (answer : Answer) (new : EventualValue) → EventualGives old act answer new → Suits act answer
eventual-suits old (Await o) (Given b) new gives = received-by old.value o b gives.0
eventual-suits old (Await o) Rested new gives = tt
eventual-suits old (Fill n) (Woke os) new gives = tt
eventual-suits old (Fill n) (Coded code.EventualSet) new gives = tt
eventual-suits old Reset Rested new gives = tt
eventual-suits old Test (Number n) new gives = tt
eventual-suits old act answer new gives = absurd gives

future-suits : (old : FutureValue) (act : Act) (answer : Answer) (new : FutureValue) → FutureGives old act answer new → Suits act answer
future-suits old (Await o) (Given b) new gives = (old.value, gives.1)
future-suits old (Await o) Rested new gives = tt
future-suits old (Fill n) (Woke os) new gives = tt
future-suits old (Fill n) (Coded code.FutureFull) new gives = tt
future-suits old Reset Rested new gives = tt
future-suits old Test (Number n) new gives = tt
future-suits old act answer new gives = absurd gives

barrier-suits : (old : BarrierValue) (act : Act) (answer : Answer) (new : BarrierValue) → BarrierGives old act answer new → Suits act answer
barrier-suits old (Arrive o) (Through b os) new gives = gives.1
barrier-suits old (Arrive o) Rested new gives = tt
barrier-suits old act answer new gives = absurd gives

rwlock-suits : (old : RwLockValue) (act : Act) (answer : Answer) (new : RwLockValue) → RwLockGives old act answer new → Suits act answer
rwlock-suits old (ReadLock o) (Given b) new gives = gives.3
rwlock-suits old (ReadLock o) Rested new gives = tt
rwlock-suits old (ReadLock o) (Back b code.RwHeld) new gives = gives.1
rwlock-suits old (ReadLock o) (Back b code.RwFull) new gives = gives.2
rwlock-suits old (WriteLock o) (Given b) new gives = gives.2
rwlock-suits old (WriteLock o) Rested new gives = tt
rwlock-suits old (WriteLock o) (Back b code.RwHeld) new gives = gives.1
rwlock-suits old (RwUnlock u) (Woke os) new gives = tt
rwlock-suits old (RwUnlock u) (Coded code.NotHolder) new gives = tt
rwlock-suits old (Load u) (Number n) new gives = tt
rwlock-suits old (Load u) (Coded code.NotHolder) new gives = tt
rwlock-suits old (Store u n) (Coded code.Ok) new gives = tt
rwlock-suits old (Store u n) (Coded code.NotHolder) new gives = tt
rwlock-suits old act answer new gives = absurd gives

pub answers-suit : AnswersSuit
answers-suit (PoolIs old) act answer new gives = pool-suits old act answer gives.0 gives.2
answers-suit (DeskIs old) act answer new gives = desk-suits old act answer gives.0 gives.2
answers-suit (MonitorIs old) act answer new gives = monitor-suits old act answer gives.0 gives.2
answers-suit (EventualIs old) act answer new gives = eventual-suits old act answer gives.0 gives.2
answers-suit (FutureIs old) act answer new gives = future-suits old act answer gives.0 gives.2
answers-suit (BarrierIs old) act answer new gives = barrier-suits old act answer gives.0 gives.2
answers-suit (RwLockIs old) act answer new gives = rwlock-suits old act answer gives.0 gives.2
answers-suit NotHere act answer new gives = absurd gives
