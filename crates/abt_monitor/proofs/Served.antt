-- Nobody waits for a mutex that is free.
use Rattle.std.proofs.Common.{◌≡◌, ℕ, List, [], ◌∷◌, ◌++◌, Option, None, Some, refl, sym, subst, IsSome}
use Rattle.abt_machine.specs.declared.events.Code.TheVariants as code
use Rattle.abt_machine.specs.Acts.{Lock, TryLock, Unlock, Load, Store, Wait, Signal, Broadcast, Given, Rested, Number, Coded, Back}
use Rattle.abt_machine.specs.Monitors.{admitted, admitted_by, after_broadcast, after_signal, after_wait, all_admitted, at_condition, handed_over, rest, with_condition}
use Rattle.abt_machine.specs.Queues.{first_alone}
use Rattle.abt_machine.specs.Values.{MonitorValue, Owned}
use Rattle.abt_monitor.specs.Keeps.{FreeMutexesHaveNoWaiters, IsServed}

held : {A : Type 0} (owner : Option ℕ) → IsSome owner → owner ≡ None → A
held None some none = cc
held (Some v) some none = cc

handed_over-by : (n : ℕ) (ws : List Owned) (cs : List (List Owned)) (owner : Option ℕ) → IsServed (handed_over (record { owner = owner; number = n; waiters = ws; conds = cs }))
handed_over-by n [] cs owner none = refl
handed_over-by n (o ∷ ws) cs owner none = cc

IsServed-handed_over : (m : MonitorValue) → IsServed (handed_over m)
IsServed-handed_over m = handed_over-by m.number m.waiters m.conds m.owner

admitted-by : (owner : Option ℕ) (o : Owned) (m : MonitorValue) → m.owner ≡ owner → IsServed (admitted_by owner o m)
admitted-by None o m is none = cc
admitted-by (Some v) o m is none = cc

IsServed-all_admitted : (os : List Owned) (m : MonitorValue) → IsServed m → IsServed (all_admitted os m)
IsServed-all_admitted [] m served = served
IsServed-all_admitted (o ∷ os) m served = IsServed-all_admitted os (admitted o m) (admitted-by m.owner o m refl)

IsServed-after_signal : (k : ℕ) (m : MonitorValue) → IsServed m → IsServed (after_signal k m)
IsServed-after_signal k m = IsServed-all_admitted (first_alone (at_condition k m)) (with_condition k (rest (at_condition k m)) m)

IsServed-after_broadcast : (k : ℕ) (m : MonitorValue) → IsServed m → IsServed (after_broadcast k m)
IsServed-after_broadcast k m = IsServed-all_admitted (at_condition k m) (with_condition k [] m)

IsServed-after_wait : (k : ℕ) (o : Owned) (m : MonitorValue) → IsServed (after_wait k o m)
IsServed-after_wait k o m = IsServed-handed_over (with_condition k (at_condition k m ++ o ∷ []) m)

becomes : (m new : MonitorValue) → new ≡ m → IsServed m → IsServed new
becomes m new same served = subst IsServed (sym same) served

pub free-mutexes-have-no-waiters : FreeMutexesHaveNoWaiters
free-mutexes-have-no-waiters old (Lock o) (Given b) new gives served = becomes _ new gives.2 (λ none. cc)
free-mutexes-have-no-waiters old (Lock o) Rested new gives served = becomes _ new gives.1 (held old.owner gives.0)
free-mutexes-have-no-waiters old (TryLock u) (Coded code.Ok) new gives served = becomes _ new gives.1 (λ none. cc)
free-mutexes-have-no-waiters old (TryLock u) (Coded code.MutexLocked) new gives served = becomes old new gives.1 served
free-mutexes-have-no-waiters old (Unlock u) (Given b) new gives served = becomes _ new gives.2 (IsServed-handed_over old)
free-mutexes-have-no-waiters old (Unlock u) Rested new gives served = becomes _ new gives.2 (IsServed-handed_over old)
free-mutexes-have-no-waiters old (Unlock u) (Coded code.NotOwner) new gives served = becomes old new gives.1 served
free-mutexes-have-no-waiters old (Load u) (Number n) new gives served = becomes old new gives.2 served
free-mutexes-have-no-waiters old (Load u) (Coded code.NotOwner) new gives served = becomes old new gives.1 served
free-mutexes-have-no-waiters old (Store u n) (Coded code.Ok) new gives served = becomes (record old { number = n }) new gives.1 served
free-mutexes-have-no-waiters old (Store u n) (Coded code.NotOwner) new gives served = becomes old new gives.1 served
free-mutexes-have-no-waiters old (Wait k o) (Given b) new gives served = becomes _ new gives.2 (IsServed-after_wait k o old)
free-mutexes-have-no-waiters old (Wait k o) Rested new gives served = becomes _ new gives.2 (IsServed-after_wait k o old)
free-mutexes-have-no-waiters old (Wait k o) (Back b code.NotOwner) new gives served = becomes old new gives.2 served
free-mutexes-have-no-waiters old (Signal k) (Given b) new gives served = becomes _ new gives.1 (IsServed-after_signal k old served)
free-mutexes-have-no-waiters old (Signal k) Rested new gives served = becomes _ new gives.1 (IsServed-after_signal k old served)
free-mutexes-have-no-waiters old (Broadcast k) (Given b) new gives served = becomes _ new gives.1 (IsServed-after_broadcast k old served)
free-mutexes-have-no-waiters old (Broadcast k) Rested new gives served = becomes _ new gives.1 (IsServed-after_broadcast k old served)
free-mutexes-have-no-waiters old act answer new gives served = absurd gives
