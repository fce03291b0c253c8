-- What a monitor answers, and what it is afterwards: a mutex with its number and its conditions.
use Rattle.std.specs.Prelude.{ℕ, ◌≡◌, ◌≢◌, List, [], ◌∷◌, ◌++◌, Option, Some, None, option_map, IsSome, IsNone, slice_get, slice_set}
use Rattle.abt_machine.specs.declared.events.Code.TheVariants as code
use Rattle.abt_machine.specs.Queues.{first, first_alone}
use Rattle.abt_machine.specs.Values.{Owned, MonitorValue}
use Rattle.abt_machine.specs.Acts.{Act, Lock, TryLock, Unlock, Load, Store, Wait, Signal, Broadcast, Answer, Given, Rested, Number, Coded, Back}

abbrev pub number_of : Owned → ℕ
number_of o = o.number

-- all but the first
abbrev pub rest : List Owned → List Owned
rest [] = []
rest (o ∷ os) = os

abbrev pub with_owner : Option ℕ → MonitorValue → MonitorValue
with_owner owner m = record m { owner = owner }

-- the first waiter, if there is one, is the owner
abbrev pub handed_over : MonitorValue → MonitorValue
handed_over m = record m { owner = option_map number_of (first m.waiters); waiters = rest m.waiters }

abbrev pub list_from : Option (List Owned) → List Owned
list_from None = []
list_from (Some os) = os

-- who waits at condition k of the monitor
abbrev pub at_condition : ℕ → MonitorValue → List Owned
at_condition k m = list_from (slice_get m.conds k)

abbrev pub with_condition : ℕ → List Owned → MonitorValue → MonitorValue
with_condition k os m = record m { conds = slice_set m.conds k os }

abbrev pub admitted_by : Option ℕ → Owned → MonitorValue → MonitorValue
admitted_by None o m = with_owner (Some o.number) m
admitted_by (Some v) o m = record m { waiters = m.waiters ++ o ∷ [] }

-- a unit that waits no longer at its condition is the owner if the mutex is free, else the last of its waiters
abbrev pub admitted : Owned → MonitorValue → MonitorValue
admitted o m = admitted_by m.owner o m

abbrev pub all_admitted : List Owned → MonitorValue → MonitorValue
all_admitted [] m = m
all_admitted (o ∷ os) m = all_admitted os (admitted o m)

-- of units that are admitted in order, the first is the owner if the mutex is free, and no other is
abbrev pub new_owner : Option ℕ → List Owned → Option Owned
new_owner None os = first os
new_owner (Some v) os = None

-- the first that waits at condition k is admitted
abbrev pub after_signal : ℕ → MonitorValue → MonitorValue
after_signal k m = all_admitted (first_alone (at_condition k m)) (with_condition k (rest (at_condition k m)) m)

-- all that wait at condition k are admitted, in order
abbrev pub after_broadcast : ℕ → MonitorValue → MonitorValue
after_broadcast k m = all_admitted (at_condition k m) (with_condition k [] m)

-- the unit waits at condition k, and the mutex is handed over
abbrev pub after_wait : ℕ → Owned → MonitorValue → MonitorValue
after_wait k o m = handed_over (with_condition k (at_condition k m ++ o ∷ []) m)

-- a monitor's answer, and the monitor afterwards
abbrev pub MonitorGives : MonitorValue → Act → Answer → MonitorValue → Type 0
MonitorGives old (Lock o) (Given b) new = IsNone old.owner × (b ≡ o) × (new ≡ with_owner (Some o.number) old)
MonitorGives old (Lock o) Rested new = IsSome old.owner × (new ≡ record old { waiters = old.waiters ++ o ∷ [] })
MonitorGives old (TryLock u) (Coded code.Ok) new = IsNone old.owner × (new ≡ with_owner (Some u) old)
MonitorGives old (TryLock u) (Coded code.MutexLocked) new = IsSome old.owner × (new ≡ old)
MonitorGives old (Unlock u) (Given b) new = (old.owner ≡ Some u) × (first old.waiters ≡ Some b) × (new ≡ handed_over old)
MonitorGives old (Unlock u) Rested new = (old.owner ≡ Some u) × (first old.waiters ≡ None) × (new ≡ handed_over old)
MonitorGives old (Unlock u) (Coded code.NotOwner) new = (old.owner ≢ Some u) × (new ≡ old)
MonitorGives old (Load u) (Number n) new = (old.owner ≡ Some u) × (n ≡ old.number) × (new ≡ old)
MonitorGives old (Load u) (Coded code.NotOwner) new = (old.owner ≢ Some u) × (new ≡ old)
MonitorGives old (Store u n) (Coded code.Ok) new = (old.owner ≡ Some u) × (new ≡ record old { number = n })
MonitorGives old (Store u n) (Coded code.NotOwner) new = (old.owner ≢ Some u) × (new ≡ old)
MonitorGives old (Wait k o) (Given b) new = (old.owner ≡ Some o.number) × (first old.waiters ≡ Some b) × (new ≡ after_wait k o old)
MonitorGives old (Wait k o) Rested new = (old.owner ≡ Some o.number) × (first old.waiters ≡ None) × (new ≡ after_wait k o old)
MonitorGives old (Wait k o) (Back b code.NotOwner) new = (old.owner ≢ Some o.number) × (b ≡ o) × (new ≡ old)
MonitorGives old (Signal k) (Given b) new = (new_owner old.owner (at_condition k old) ≡ Some b) × (new ≡ after_signal k old)
MonitorGives old (Signal k) Rested new = (new_owner old.owner (at_condition k old) ≡ None) × (new ≡ after_signal k old)
MonitorGives old (Broadcast k) (Given b) new = (new_owner old.owner (at_condition k old) ≡ Some b) × (new ≡ after_broadcast k old)
MonitorGives old (Broadcast k) Rested new = (new_owner old.owner (at_condition k old) ≡ None) × (new ≡ after_broadcast k old)
MonitorGives old act answer new = ⊥
