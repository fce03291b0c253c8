-- What an object answers an act that it may be asked, and what it is afterwards, as functions.
use Rattle.std.proofs.Common.{◌≡◌, ◌≢◌, ℕ, suc, ◌==◌, nat_lt, Bool, true, false, List, [], ◌∷◌, ◌++◌, length, map, Option, None, Some, option_map, refl, sym, ◌∙◌, ap, arith}
use Rattle.std.specs.Prelude.{◌||◌, IsFalse, is_some, if◌then◌else◌}
use Rattle.std.specs.List.{find}
use Rattle.std.proofs.lemmas.Bool.{eq-eqb, eqb-true, eqb-false, false_from_ne_true, le-ltb, lt-ltb, ltb-false, ltb-true}
use Rattle.abt_machine.specs.declared.events.Code.{Code}
use Rattle.abt_machine.specs.declared.events.Code.TheVariants as code
use Rattle.abt_machine.specs.declared.events.Wish.TheVariants as wish
use Rattle.abt_machine.specs.declared.operations.Side.{Side}
use Rattle.abt_machine.specs.declared.operations.Side.TheVariants as side
use Rattle.abt_machine.specs.Fronts.{is_some_of}
use Rattle.abt_machine.specs.Queues.{first}
use Rattle.abt_machine.specs.Numbers.{truth}
use Rattle.abt_machine.specs.Values.{Owned, Out, Suspended, Object, PoolIs, DeskIs, MonitorIs, EventualIs, FutureIs, BarrierIs, RwLockIs, NotHere, PoolValue, DeskValue, MonitorValue, EventualValue, FutureValue, BarrierValue, RwLockValue}
use Rattle.abt_machine.specs.Acts.{Act, Put, Take, Remove, Create, End, Join, AskCancel, AskMigrate, Look, Suspend, Resume, Revive, SetMigratable, Lock, TryLock, Unlock, Load, Store, Wait, Signal, Broadcast, Await, Fill, Reset, Test, Arrive, ReadLock, WriteLock, RwUnlock, Answer, Given, Through, Woke, Rested, Miss, Number, Asks, Coded, Back, received, reborn}
use Rattle.abt_machine.specs.Pools.{PoolGives, HasSide, is_unit, with_end, with_units, without}
use Rattle.abt_machine.specs.Desks.{DeskGives, ended_in, has_ended, is_living, suspended_in, takes_back, unasked, unborn_in, with_ended, with_joiner, with_phase}
use Rattle.abt_machine.specs.Monitors.{MonitorGives, after_broadcast, after_signal, after_wait, at_condition, handed_over, new_owner, with_owner}
use Rattle.abt_machine.specs.Eventuals.{EventualGives}
use Rattle.abt_machine.specs.Futures.{FutureGives, is_ready, left_waiting, with_filled, with_one_more, woken_by}
use Rattle.abt_machine.specs.Barriers.{BarrierGives}
use Rattle.abt_machine.specs.Holders.{count_of, holds, is_free, read_by, read_limit, reads, writes, written_by}
use Rattle.abt_machine.specs.RwLocks.{RwLockGives, left_by, may_read, passed_on, waiting, woken}
use Rattle.abt_calls.specs.Allowed.{PoolAllows, DeskAllows, MonitorAllows, EventualAllows, BarrierAllows, RwLockAllows, AllowedIsAnswered, OneAnswer}

-- Tests, and what they say.

not-some : {A : Type 0} (o : Option A) → is_some o ≡ false → o ≡ None
not-some None e = refl
not-some (Some x) e = cc

is-of : (u : ℕ) (owner : Option ℕ) → owner ≡ Some u → is_some_of u owner ≡ true
is-of u owner e = ap (is_some_of u) e ∙ eq-eqb u u refl

of-is : (u : ℕ) (owner : Option ℕ) → is_some_of u owner ≡ true → owner ≡ Some u
of-is u None e = cc
of-is u (Some v) e = ap (λ (n : ℕ). Some n) (eqb-true v u e)

not-of : (u : ℕ) (owner : Option ℕ) → owner ≢ Some u → is_some_of u owner ≡ false
not-of u owner other = false_from_ne_true (is_some_of u owner) (λ e. other (of-is u owner e))

of-not : (u : ℕ) (owner : Option ℕ) → is_some_of u owner ≡ false → owner ≢ Some u
of-not u owner e is = let both : true ≡ false = sym (is-of u owner is) ∙ e in cc

unmapped : {A B : Type 0} (f : A → B) (o : Option A) → option_map f o ≡ None → o ≡ None
unmapped f None e = refl
unmapped f (Some x) e = cc

-- an answer, and the object afterwards
abbrev Reply : Type 0 → Type 0
Reply Value = Answer × Value

-- Pools.

abbrev after_back : Owned → Option (Owned × List Owned) → Owned × List Owned
after_back o None = (o, [])
after_back o (Some e) = (e.0, o ∷ e.1)

abbrev back_end : List Owned → Option (Owned × List Owned)
back_end [] = None
back_end (o ∷ os) = Some (after_back o (back_end os))

abbrev front_end : List Owned → Option (Owned × List Owned)
front_end [] = None
front_end (o ∷ os) = Some (o, os)

-- the unit at an end, and the others
abbrev end_at : Side → List Owned → Option (Owned × List Owned)
end_at side.Front os = front_end os
end_at side.Back os = back_end os

-- these are the unit at an end and the others
abbrev IsEnd : Side → List Owned → Option (Owned × List Owned) → Type 0
IsEnd d os None = os ≡ []
IsEnd d os (Some e) = os ≡ with_end d e.0 e.1

back-more : (x : Owned) (xs : List Owned) (e : Option (Owned × List Owned)) → IsEnd side.Back xs e → IsEnd side.Back (x ∷ xs) (Some (after_back x e))
back-more x xs None is = ap (λ os. x ∷ os) is
back-more x xs (Some e) is = ap (λ os. x ∷ os) is

back-is : (os : List Owned) → IsEnd side.Back os (back_end os)
back-is [] = refl
back-is (x ∷ xs) = back-more x xs (back_end xs) (back-is xs)

end-is : (d : Side) (os : List Owned) → IsEnd d os (end_at d os)
end-is side.Front [] = refl
end-is side.Front (x ∷ xs) = refl
end-is side.Back os = back-is os

back-of : (o : Owned) (os : List Owned) → back_end (os ++ o ∷ []) ≡ Some (o, os)
back-of o [] = refl
back-of o (x ∷ xs) = ap (λ e. Some (after_back x e)) (back-of o xs)

end-of : (d : Side) (o : Owned) (os : List Owned) → end_at d (with_end d o os) ≡ Some (o, os)
end-of side.Front o os = refl
end-of side.Back o os = back-of o os

abbrev take_reply : PoolValue → Option (Owned × List Owned) → Reply PoolValue
take_reply old None = (Miss, old)
take_reply old (Some e) = (Given e.0, with_units e.1 old)

abbrev remove_reply : PoolValue → ℕ → Option Owned → Reply PoolValue
remove_reply old u None = (Coded code.Absent, old)
remove_reply old u (Some o) = (Given o, with_units (without u old.units) old)

abbrev pool_reply : PoolValue → Act → Reply PoolValue
pool_reply old (Put o) = (Rested, with_units (old.units ++ o ∷ []) old)
pool_reply old (Take d) = take_reply old (end_at d old.units)
pool_reply old (Remove u) = remove_reply old u (find (is_unit u) old.units)
pool_reply old act = (Rested, old)

pool-replies : (old : PoolValue) (act : Act) (answer : Answer) (new : PoolValue) → PoolGives old act answer new → ◌≡◌ {A = Reply PoolValue} (answer, new) (pool_reply old act)
pool-replies old (Put o) Rested new gives = λ i. (Rested, gives i)
pool-replies old (Take d) (Given o) new gives =
    (λ i. (Given o, record { kind = gives.2 i; units = new.units })) ∙ sym (ap (take_reply old) (ap (end_at d) gives.1 ∙ end-of d o new.units))
pool-replies old (Take d) Miss new gives = (λ i. (Miss, gives.2 i)) ∙ sym (ap (take_reply old) (ap (end_at d) gives.1 ∙ none d)) where
  none : (d : Side) → end_at d [] ≡ None
  none side.Front = refl
  none side.Back = refl
pool-replies old (Remove u) (Given o) new gives = (λ i. (Given o, gives.1 i)) ∙ sym (ap (remove_reply old u) gives.0)
pool-replies old (Remove u) (Coded code.Absent) new gives = (λ i. (Coded code.Absent, gives.1 i)) ∙ sym (ap (remove_reply old u) gives.0)
pool-replies old act answer new gives = absurd gives

-- the object answers with the reply
abbrev GivesPool : PoolValue → Act → Reply PoolValue → Type 0
GivesPool old act reply = PoolGives old act reply.0 reply.1

take-gives : (old : PoolValue) (d : Side) (e : Option (Owned × List Owned)) → HasSide old.kind d → IsEnd d old.units e → GivesPool old (Take d) (take_reply old e)
take-gives old d None side is = (side, is, refl)
take-gives old d (Some e) side is = (side, is, refl)

remove-gives : (old : PoolValue) (u : ℕ) (f : Option Owned) → find (is_unit u) old.units ≡ f → GivesPool old (Remove u) (remove_reply old u f)
remove-gives old u None is = (is, refl)
remove-gives old u (Some o) is = (is, refl)

pool-gives : (old : PoolValue) (act : Act) → PoolAllows old.kind act → GivesPool old act (pool_reply old act)
pool-gives old (Put o) allowed = refl
pool-gives old (Take d) allowed = take-gives old d (end_at d old.units) allowed (end-is d old.units)
pool-gives old (Remove u) allowed = remove-gives old u (find (is_unit u) old.units) refl
pool-gives old act allowed = absurd allowed

-- Desks.

-- a unit that begins a life, or why none does
abbrev born_reply : DeskValue → Code → Option Owned → Reply DeskValue
born_reply old c None = (Coded c, old)
born_reply old c (Some o) = (Given o, with_phase Out old)

abbrev join_reply : DeskValue → Owned → Bool → Reply DeskValue
join_reply old o true = (Given o, old)
join_reply old o false = (Rested, with_joiner o old)

abbrev cancel_reply : DeskValue → Bool → Reply DeskValue
cancel_reply old true = (Coded code.Ok, record old { cancel = true })
cancel_reply old false = (Coded code.UnitState, old)

abbrev migrate_reply : DeskValue → ℕ → Bool → Bool → Reply DeskValue
migrate_reply old p true true = (Coded code.Ok, record old { migrate = Some p })
migrate_reply old p true false = (Coded code.NotMigratable, old)
migrate_reply old p false migratable = (Coded code.UnitState, old)

abbrev migratable_reply : DeskValue → Bool → Bool → Reply DeskValue
migratable_reply old allowed false = (Coded code.Ok, record old { migratable = allowed })
migratable_reply old allowed true = (Coded code.NotMigratable, old)

abbrev desk_reply : DeskValue → Act → Reply DeskValue
desk_reply old (Create p) = born_reply old code.Exists (option_map (reborn p) (unborn_in old.phase))
desk_reply old (End o cause) =
    (Woke (if takes_back old o then old.joiners else []), if takes_back old o then with_ended o cause old else with_joiner o old)
desk_reply old (Join o) = join_reply old o (has_ended old.phase)
desk_reply old AskCancel = cancel_reply old (is_living old.phase)
desk_reply old (AskMigrate p) = migrate_reply old p (is_living old.phase) old.migratable
desk_reply old Look = (Asks old.cancel old.migrate, unasked old)
desk_reply old (Suspend o) = (Rested, if takes_back old o then with_phase (Suspended o) old else with_joiner o old)
desk_reply old Resume = born_reply old code.UnitState (suspended_in old.phase)
desk_reply old (Revive p) = born_reply old code.UnitState (option_map (reborn p) (ended_in old.phase))
desk_reply old (SetMigratable allowed) = migratable_reply old allowed old.sched
desk_reply old act = (Rested, old)

desk-replies : (old : DeskValue) (act : Act) (answer : Answer) (new : DeskValue) → DeskGives old act answer new → ◌≡◌ {A = Reply DeskValue} (answer, new) (desk_reply old act)
desk-replies old (Create p) (Given o) new gives = (λ i. (Given o, gives.1 i)) ∙ sym (ap (born_reply old code.Exists) gives.0)
desk-replies old (Create p) (Coded code.Exists) new gives = (λ i. (Coded code.Exists, gives.1 i)) ∙ sym (ap (λ f. born_reply old code.Exists (option_map (reborn p) f)) gives.0)
desk-replies old (End o cause) (Woke os) new gives = λ i. (Woke (gives.0 i), gives.1 i)
desk-replies old (Join o) (Given b) new gives = (λ i. (Given (gives.1 i), gives.2 i)) ∙ sym (ap (join_reply old o) gives.0)
desk-replies old (Join o) Rested new gives = (λ i. (Rested, gives.1 i)) ∙ sym (ap (join_reply old o) gives.0)
desk-replies old AskCancel (Coded code.Ok) new gives = (λ i. (Coded code.Ok, gives.1 i)) ∙ sym (ap (cancel_reply old) gives.0)
desk-replies old AskCancel (Coded code.UnitState) new gives = (λ i. (Coded code.UnitState, gives.1 i)) ∙ sym (ap (cancel_reply old) gives.0)
desk-replies old (AskMigrate p) (Coded code.Ok) new gives = (λ i. (Coded code.Ok, gives.2 i)) ∙ sym (λ i. migrate_reply old p (gives.0 i) (gives.1 i))
desk-replies old (AskMigrate p) (Coded code.UnitState) new gives = (λ i. (Coded code.UnitState, gives.1 i)) ∙ sym (ap (λ b. migrate_reply old p b old.migratable) gives.0)
desk-replies old (AskMigrate p) (Coded code.NotMigratable) new gives = (λ i. (Coded code.NotMigratable, gives.2 i)) ∙ sym (λ i. migrate_reply old p (gives.0 i) (gives.1 i))
desk-replies old Look (Asks cancel migrate) new gives = λ i. (Asks (gives.0 i) (gives.1 i), gives.2 i)
desk-replies old (Suspend o) Rested new gives = λ i. (Rested, gives i)
desk-replies old Resume (Given o) new gives = (λ i. (Given o, gives.1 i)) ∙ sym (ap (born_reply old code.UnitState) gives.0)
desk-replies old Resume (Coded code.UnitState) new gives = (λ i. (Coded code.UnitState, gives.1 i)) ∙ sym (ap (born_reply old code.UnitState) gives.0)
desk-replies old (Revive p) (Given o) new gives = (λ i. (Given o, gives.1 i)) ∙ sym (ap (born_reply old code.UnitState) gives.0)
desk-replies old (Revive p) (Coded code.UnitState) new gives = (λ i. (Coded code.UnitState, gives.1 i)) ∙ sym (ap (λ f. born_reply old code.UnitState (option_map (reborn p) f)) gives.0)
desk-replies old (SetMigratable allowed) (Coded code.Ok) new gives = (λ i. (Coded code.Ok, gives.1 i)) ∙ sym (ap (migratable_reply old allowed) gives.0)
desk-replies old (SetMigratable allowed) (Coded code.NotMigratable) new gives = (λ i. (Coded code.NotMigratable, gives.1 i)) ∙ sym (ap (migratable_reply old allowed) gives.0)
desk-replies old act answer new gives = absurd gives

abbrev GivesDesk : DeskValue → Act → Reply DeskValue → Type 0
GivesDesk old act reply = DeskGives old act reply.0 reply.1

create-gives : (old : DeskValue) (p : ℕ) (f : Option Owned) → option_map (reborn p) (unborn_in old.phase) ≡ f → GivesDesk old (Create p) (born_reply old code.Exists f)
create-gives old p None is = (unmapped (reborn p) (unborn_in old.phase) is, refl)
create-gives old p (Some o) is = (is, refl)

join-gives : (old : DeskValue) (o : Owned) (b : Bool) → has_ended old.phase ≡ b → GivesDesk old (Join o) (join_reply old o b)
join-gives old o true is = (is, refl, refl)
join-gives old o false is = (is, refl)

cancel-gives : (old : DeskValue) (b : Bool) → is_living old.phase ≡ b → GivesDesk old AskCancel (cancel_reply old b)
cancel-gives old true is = (is, refl)
cancel-gives old false is = (is, refl)

migrate-gives : (old : DeskValue) (p : ℕ) (living migratable : Bool) → is_living old.phase ≡ living → old.migratable ≡ migratable → GivesDesk old (AskMigrate p) (migrate_reply old p living migratable)
migrate-gives old p true true is may = (is, may, refl)
migrate-gives old p true false is may = (is, may, refl)
migrate-gives old p false migratable is may = (is, refl)

resume-gives : (old : DeskValue) (f : Option Owned) → suspended_in old.phase ≡ f → GivesDesk old Resume (born_reply old code.UnitState f)
resume-gives old None is = (is, refl)
resume-gives old (Some o) is = (is, refl)

revive-gives : (old : DeskValue) (p : ℕ) (f : Option Owned) → option_map (reborn p) (ended_in old.phase) ≡ f → GivesDesk old (Revive p) (born_reply old code.UnitState f)
revive-gives old p None is = (unmapped (reborn p) (ended_in old.phase) is, refl)
revive-gives old p (Some o) is = (is, refl)

migratable-gives : (old : DeskValue) (allowed b : Bool) → old.sched ≡ b → GivesDesk old (SetMigratable allowed) (migratable_reply old allowed b)
migratable-gives old allowed true is = (is, refl)
migratable-gives old allowed false is = (is, refl)

desk-gives : (old : DeskValue) (act : Act) → DeskAllows act → GivesDesk old act (desk_reply old act)
desk-gives old (Create p) allowed = create-gives old p (option_map (reborn p) (unborn_in old.phase)) refl
desk-gives old (End o cause) allowed = (refl, refl)
desk-gives old (Join o) allowed = join-gives old o (has_ended old.phase) refl
desk-gives old AskCancel allowed = cancel-gives old (is_living old.phase) refl
desk-gives old (AskMigrate p) allowed = migrate-gives old p (is_living old.phase) old.migratable refl refl
desk-gives old Look allowed = (refl, refl, refl)
desk-gives old (Suspend o) allowed = refl
desk-gives old Resume allowed = resume-gives old (suspended_in old.phase) refl
desk-gives old (Revive p) allowed = revive-gives old p (option_map (reborn p) (ended_in old.phase)) refl
desk-gives old (SetMigratable b) allowed = migratable-gives old b old.sched refl
desk-gives old act allowed = absurd allowed

-- Monitors.

abbrev lock_reply : MonitorValue → Owned → Bool → Reply MonitorValue
lock_reply old o false = (Given o, with_owner (Some o.number) old)
lock_reply old o true = (Rested, record old { waiters = old.waiters ++ o ∷ [] })

abbrev try_reply : MonitorValue → ℕ → Bool → Reply MonitorValue
try_reply old u false = (Coded code.Ok, with_owner (Some u) old)
try_reply old u true = (Coded code.MutexLocked, old)

-- a unit that comes out, or none, and the monitor afterwards
abbrev out_reply : MonitorValue → Option Owned → Reply MonitorValue
out_reply new None = (Rested, new)
out_reply new (Some b) = (Given b, new)

abbrev unlock_reply : MonitorValue → Bool → Option Owned → Reply MonitorValue
unlock_reply old true f = out_reply (handed_over old) f
unlock_reply old false f = (Coded code.NotOwner, old)

abbrev load_reply : MonitorValue → Bool → Reply MonitorValue
load_reply old true = (Number old.number, old)
load_reply old false = (Coded code.NotOwner, old)

abbrev store_reply : MonitorValue → ℕ → Bool → Reply MonitorValue
store_reply old n true = (Coded code.Ok, record old { number = n })
store_reply old n false = (Coded code.NotOwner, old)

abbrev wait_reply : MonitorValue → ℕ → Owned → Bool → Option Owned → Reply MonitorValue
wait_reply old k o true f = out_reply (after_wait k o old) f
wait_reply old k o false f = (Back o code.NotOwner, old)

abbrev monitor_reply : MonitorValue → Act → Reply MonitorValue
monitor_reply old (Lock o) = lock_reply old o (is_some old.owner)
monitor_reply old (TryLock u) = try_reply old u (is_some old.owner)
monitor_reply old (Unlock u) = unlock_reply old (is_some_of u old.owner) (first old.waiters)
monitor_reply old (Load u) = load_reply old (is_some_of u old.owner)
monitor_reply old (Store u n) = store_reply old n (is_some_of u old.owner)
monitor_reply old (Wait k o) = wait_reply old k o (is_some_of o.number old.owner) (first old.waiters)
monitor_reply old (Signal k) = out_reply (after_signal k old) (new_owner old.owner (at_condition k old))
monitor_reply old (Broadcast k) = out_reply (after_broadcast k old) (new_owner old.owner (at_condition k old))
monitor_reply old act = (Rested, old)

monitor-replies : (old : MonitorValue) (act : Act) (answer : Answer) (new : MonitorValue) → MonitorGives old act answer new → ◌≡◌ {A = Reply MonitorValue} (answer, new) (monitor_reply old act)
monitor-replies old (Lock o) (Given b) new gives = (λ i. (Given (gives.1 i), gives.2 i)) ∙ sym (ap (lock_reply old o) gives.0)
monitor-replies old (Lock o) Rested new gives = (λ i. (Rested, gives.1 i)) ∙ sym (ap (lock_reply old o) gives.0)
monitor-replies old (TryLock u) (Coded code.Ok) new gives = (λ i. (Coded code.Ok, gives.1 i)) ∙ sym (ap (try_reply old u) gives.0)
monitor-replies old (TryLock u) (Coded code.MutexLocked) new gives = (λ i. (Coded code.MutexLocked, gives.1 i)) ∙ sym (ap (try_reply old u) gives.0)
monitor-replies old (Unlock u) (Given b) new gives = (λ i. (Given b, gives.2 i)) ∙ sym (λ i. unlock_reply old (is-of u old.owner gives.0 i) (gives.1 i))
monitor-replies old (Unlock u) Rested new gives = (λ i. (Rested, gives.2 i)) ∙ sym (λ i. unlock_reply old (is-of u old.owner gives.0 i) (gives.1 i))
monitor-replies old (Unlock u) (Coded code.NotOwner) new gives = (λ i. (Coded code.NotOwner, gives.1 i)) ∙ sym (ap (λ b. unlock_reply old b (first old.waiters)) (not-of u old.owner gives.0))
monitor-replies old (Load u) (Number n) new gives = (λ i. (Number (gives.1 i), gives.2 i)) ∙ sym (ap (load_reply old) (is-of u old.owner gives.0))
monitor-replies old (Load u) (Coded code.NotOwner) new gives = (λ i. (Coded code.NotOwner, gives.1 i)) ∙ sym (ap (load_reply old) (not-of u old.owner gives.0))
monitor-replies old (Store u n) (Coded code.Ok) new gives = (λ i. (Coded code.Ok, gives.1 i)) ∙ sym (ap (store_reply old n) (is-of u old.owner gives.0))
monitor-replies old (Store u n) (Coded code.NotOwner) new gives = (λ i. (Coded code.NotOwner, gives.1 i)) ∙ sym (ap (store_reply old n) (not-of u old.owner gives.0))
monitor-replies old (Wait k o) (Given b) new gives = (λ i. (Given b, gives.2 i)) ∙ sym (λ i. wait_reply old k o (is-of o.number old.owner gives.0 i) (gives.1 i))
monitor-replies old (Wait k o) Rested new gives = (λ i. (Rested, gives.2 i)) ∙ sym (λ i. wait_reply old k o (is-of o.number old.owner gives.0 i) (gives.1 i))
monitor-replies old (Wait k o) (Back b code.NotOwner) new gives = (λ i. (Back (gives.1 i) code.NotOwner, gives.2 i)) ∙ sym (ap (λ t. wait_reply old k o t (first old.waiters)) (not-of o.number old.owner gives.0))
monitor-replies old (Signal k) (Given b) new gives = (λ i. (Given b, gives.1 i)) ∙ sym (ap (out_reply (after_signal k old)) gives.0)
monitor-replies old (Signal k) Rested new gives = (λ i. (Rested, gives.1 i)) ∙ sym (ap (out_reply (after_signal k old)) gives.0)
monitor-replies old (Broadcast k) (Given b) new gives = (λ i. (Given b, gives.1 i)) ∙ sym (ap (out_reply (after_broadcast k old)) gives.0)
monitor-replies old (Broadcast k) Rested new gives = (λ i. (Rested, gives.1 i)) ∙ sym (ap (out_reply (after_broadcast k old)) gives.0)
monitor-replies old act answer new gives = absurd gives

abbrev GivesMonitor : MonitorValue → Act → Reply MonitorValue → Type 0
GivesMonitor old act reply = MonitorGives old act reply.0 reply.1

lock-gives : (old : MonitorValue) (o : Owned) (b : Bool) → is_some old.owner ≡ b → GivesMonitor old (Lock o) (lock_reply old o b)
lock-gives old o true is = (is, refl)
lock-gives old o false is = (is, refl, refl)

try-gives : (old : MonitorValue) (u : ℕ) (b : Bool) → is_some old.owner ≡ b → GivesMonitor old (TryLock u) (try_reply old u b)
try-gives old u true is = (is, refl)
try-gives old u false is = (is, refl)

unlock-gives : (old : MonitorValue) (u : ℕ) (b : Bool) (f : Option Owned) → is_some_of u old.owner ≡ b → first old.waiters ≡ f → GivesMonitor old (Unlock u) (unlock_reply old b f)
unlock-gives old u true None is at = (of-is u old.owner is, at, refl)
unlock-gives old u true (Some b) is at = (of-is u old.owner is, at, refl)
unlock-gives old u false f is at = (of-not u old.owner is, refl)

load-gives : (old : MonitorValue) (u : ℕ) (b : Bool) → is_some_of u old.owner ≡ b → GivesMonitor old (Load u) (load_reply old b)
load-gives old u true is = (of-is u old.owner is, refl, refl)
load-gives old u false is = (of-not u old.owner is, refl)

store-gives : (old : MonitorValue) (u n : ℕ) (b : Bool) → is_some_of u old.owner ≡ b → GivesMonitor old (Store u n) (store_reply old n b)
store-gives old u n true is = (of-is u old.owner is, refl)
store-gives old u n false is = (of-not u old.owner is, refl)

wait-gives : (old : MonitorValue) (k : ℕ) (o : Owned) (b : Bool) (f : Option Owned) → is_some_of o.number old.owner ≡ b → first old.waiters ≡ f → GivesMonitor old (Wait k o) (wait_reply old k o b f)
wait-gives old k o true None is at = (of-is o.number old.owner is, at, refl)
wait-gives old k o true (Some b) is at = (of-is o.number old.owner is, at, refl)
wait-gives old k o false f is at = (of-not o.number old.owner is, refl, refl)

signal-gives : (old : MonitorValue) (k : ℕ) (f : Option Owned) → new_owner old.owner (at_condition k old) ≡ f → GivesMonitor old (Signal k) (out_reply (after_signal k old) f)
signal-gives old k None is = (is, refl)
signal-gives old k (Some b) is = (is, refl)

broadcast-gives : (old : MonitorValue) (k : ℕ) (f : Option Owned) → new_owner old.owner (at_condition k old) ≡ f → GivesMonitor old (Broadcast k) (out_reply (after_broadcast k old) f)
broadcast-gives old k None is = (is, refl)
broadcast-gives old k (Some b) is = (is, refl)

monitor-gives : (old : MonitorValue) (act : Act) → MonitorAllows (length old.conds) act → GivesMonitor old act (monitor_reply old act)
monitor-gives old (Lock o) allowed = lock-gives old o (is_some old.owner) refl
monitor-gives old (TryLock u) allowed = try-gives old u (is_some old.owner) refl
monitor-gives old (Unlock u) allowed = unlock-gives old u (is_some_of u old.owner) (first old.waiters) refl refl
monitor-gives old (Load u) allowed = load-gives old u (is_some_of u old.owner) refl
monitor-gives old (Store u n) allowed = store-gives old u n (is_some_of u old.owner) refl
monitor-gives old (Wait k o) allowed = wait-gives old k o (is_some_of o.number old.owner) (first old.waiters) refl refl
monitor-gives old (Signal k) allowed = signal-gives old k (new_owner old.owner (at_condition k old)) refl
monitor-gives old (Broadcast k) allowed = broadcast-gives old k (new_owner old.owner (at_condition k old)) refl
monitor-gives old act allowed = absurd allowed

-- Eventuals.

abbrev await_reply : EventualValue → Owned → Option Owned → Reply EventualValue
await_reply old o None = (Rested, record old { waiters = old.waiters ++ o ∷ [] })
await_reply old o (Some b) = (Given b, old)

abbrev fill_reply : EventualValue → ℕ → Bool → Reply EventualValue
fill_reply old n false = (Woke (map (received n) old.waiters), record { value = Some n; waiters = [] })
fill_reply old n true = (Coded code.EventualSet, old)

abbrev eventual_reply : EventualValue → Act → Reply EventualValue
eventual_reply old (Await o) = await_reply old o (option_map (λ n. received n o) old.value)
eventual_reply old (Fill n) = fill_reply old n (is_some old.value)
eventual_reply old Reset = (Rested, record old { value = None })
eventual_reply old Test = (Number (truth (is_some old.value)), old)
eventual_reply old act = (Rested, old)

eventual-replies : (old : EventualValue) (act : Act) (answer : Answer) (new : EventualValue) → EventualGives old act answer new → ◌≡◌ {A = Reply EventualValue} (answer, new) (eventual_reply old act)
eventual-replies old (Await o) (Given b) new gives = (λ i. (Given b, gives.1 i)) ∙ sym (ap (await_reply old o) gives.0)
eventual-replies old (Await o) Rested new gives = (λ i. (Rested, gives.1 i)) ∙ sym (ap (λ v. await_reply old o (option_map (λ n. received n o) v)) (not-some old.value gives.0))
eventual-replies old (Fill n) (Woke os) new gives = (λ i. (Woke (gives.1 i), gives.2 i)) ∙ sym (ap (fill_reply old n) gives.0)
eventual-replies old (Fill n) (Coded code.EventualSet) new gives = (λ i. (Coded code.EventualSet, gives.1 i)) ∙ sym (ap (fill_reply old n) gives.0)
eventual-replies old Reset Rested new gives = λ i. (Rested, gives i)
eventual-replies old Test (Number n) new gives = λ i. (Number (gives.0 i), gives.1 i)
eventual-replies old act answer new gives = absurd gives

abbrev GivesEventual : EventualValue → Act → Reply EventualValue → Type 0
GivesEventual old act reply = EventualGives old act reply.0 reply.1

await-gives : (old : EventualValue) (o : Owned) (f : Option Owned) → option_map (λ n. received n o) old.value ≡ f → GivesEventual old (Await o) (await_reply old o f)
await-gives old o None is = (ap is_some (unmapped (λ n. received n o) old.value is), refl)
await-gives old o (Some b) is = (is, refl)

fill-gives : (old : EventualValue) (n : ℕ) (b : Bool) → is_some old.value ≡ b → GivesEventual old (Fill n) (fill_reply old n b)
fill-gives old n true is = (is, refl)
fill-gives old n false is = (is, refl, refl)

eventual-gives : (old : EventualValue) (act : Act) → EventualAllows act → GivesEventual old act (eventual_reply old act)
eventual-gives old (Await o) allowed = await-gives old o (option_map (λ n. received n o) old.value) refl
eventual-gives old (Fill n) allowed = fill-gives old n (is_some old.value) refl
eventual-gives old Reset allowed = refl
eventual-gives old Test allowed = (refl, refl)
eventual-gives old act allowed = absurd allowed

-- Futures.

abbrev meet_reply : FutureValue → Owned → Bool → Reply FutureValue
meet_reply old o true = (Given (received old.value o), old)
meet_reply old o false = (Rested, record old { waiters = old.waiters ++ o ∷ [] })

abbrev more_reply : FutureValue → ℕ → Bool → Reply FutureValue
more_reply old n false = (Woke (woken_by (with_one_more n old)), left_waiting (with_one_more n old))
more_reply old n true = (Coded code.FutureFull, old)

abbrev future_reply : FutureValue → Act → Reply FutureValue
future_reply old (Await o) = meet_reply old o (is_ready old)
future_reply old (Fill n) = more_reply old n (is_ready old)
future_reply old Reset = (Rested, with_filled (record { filled = 0; value = 0 }) old)
future_reply old Test = (Number (truth (is_ready old)), old)
future_reply old act = (Rested, old)

future-replies : (old : FutureValue) (act : Act) (answer : Answer) (new : FutureValue) → FutureGives old act answer new → ◌≡◌ {A = Reply FutureValue} (answer, new) (future_reply old act)
future-replies old (Await o) (Given b) new gives = (λ i. (Given (gives.1 i), gives.2 i)) ∙ sym (ap (meet_reply old o) gives.0)
future-replies old (Await o) Rested new gives = (λ i. (Rested, gives.1 i)) ∙ sym (ap (meet_reply old o) gives.0)
future-replies old (Fill n) (Woke os) new gives = (λ i. (Woke (gives.1 i), gives.2 i)) ∙ sym (ap (more_reply old n) gives.0)
future-replies old (Fill n) (Coded code.FutureFull) new gives = (λ i. (Coded code.FutureFull, gives.1 i)) ∙ sym (ap (more_reply old n) gives.0)
future-replies old Reset Rested new gives = λ i. (Rested, gives i)
future-replies old Test (Number n) new gives = λ i. (Number (gives.0 i), gives.1 i)
future-replies old act answer new gives = absurd gives

abbrev GivesFuture : FutureValue → Act → Reply FutureValue → Type 0
GivesFuture old act reply = FutureGives old act reply.0 reply.1

meet-gives : (old : FutureValue) (o : Owned) (b : Bool) → is_ready old ≡ b → GivesFuture old (Await o) (meet_reply old o b)
meet-gives old o true is = (is, refl, refl)
meet-gives old o false is = (is, refl)

more-gives : (old : FutureValue) (n : ℕ) (b : Bool) → is_ready old ≡ b → GivesFuture old (Fill n) (more_reply old n b)
more-gives old n true is = (is, refl)
more-gives old n false is = (is, refl, refl)

future-gives : (old : FutureValue) (act : Act) → EventualAllows act → GivesFuture old act (future_reply old act)
future-gives old (Await o) allowed = meet-gives old o (is_ready old) refl
future-gives old (Fill n) allowed = more-gives old n (is_ready old) refl
future-gives old Reset allowed = refl
future-gives old Test allowed = (refl, refl)
future-gives old act allowed = absurd allowed

-- Barriers.

abbrev arrive_reply : BarrierValue → Owned → Bool → Reply BarrierValue
arrive_reply old o true = (Through o old.waiters, record old { waiters = [] })
arrive_reply old o false = (Rested, record old { waiters = old.waiters ++ o ∷ [] })

abbrev is_last : BarrierValue → Bool
is_last old = suc (length old.waiters) == old.size

abbrev barrier_reply : BarrierValue → Act → Reply BarrierValue
barrier_reply old (Arrive o) = arrive_reply old o (is_last old)
barrier_reply old act = (Rested, old)

barrier-replies : (old : BarrierValue) (act : Act) (answer : Answer) (new : BarrierValue) → BarrierGives old act answer new → ◌≡◌ {A = Reply BarrierValue} (answer, new) (barrier_reply old act)
barrier-replies old (Arrive o) (Through b os) new gives =
    (λ i. (Through (gives.1 i) (gives.2 i), gives.3 i)) ∙ sym (ap (arrive_reply old o) (eq-eqb (suc (length old.waiters)) old.size gives.0))
barrier-replies old (Arrive o) Rested new gives =
    (λ i. (Rested, gives.1 i)) ∙ sym (ap (arrive_reply old o) (false_from_ne_true (is_last old) (λ e. gives.0 (eqb-true (suc (length old.waiters)) old.size e))))
barrier-replies old act answer new gives = absurd gives

abbrev GivesBarrier : BarrierValue → Act → Reply BarrierValue → Type 0
GivesBarrier old act reply = BarrierGives old act reply.0 reply.1

arrive-gives : (old : BarrierValue) (o : Owned) (b : Bool) → is_last old ≡ b → GivesBarrier old (Arrive o) (arrive_reply old o b)
arrive-gives old o true is = (eqb-true (suc (length old.waiters)) old.size is, refl, refl, refl)
arrive-gives old o false is = (eqb-false (suc (length old.waiters)) old.size is, refl)

barrier-gives : (old : BarrierValue) (act : Act) → BarrierAllows act → GivesBarrier old act (barrier_reply old act)
barrier-gives old (Arrive o) allowed = arrive-gives old o (is_last old) refl
barrier-gives old act allowed = absurd allowed

-- Reader-writer locks.

-- by whether the unit writes, whether it reads less often than it may, and whether it may read
abbrev read_reply : RwLockValue → Owned → Bool → Bool → Bool → Reply RwLockValue
read_reply old o true below may = (Back o code.RwHeld, old)
read_reply old o false false may = (Back o code.RwFull, old)
read_reply old o false true true = (Given o, record old { lock = read_by o.number old.lock })
read_reply old o false true false = (Rested, waiting wish.Read o old)

-- by whether the unit holds the lock, and whether this is free
abbrev write_reply : RwLockValue → Owned → Bool → Bool → Reply RwLockValue
write_reply old o true free = (Back o code.RwHeld, old)
write_reply old o false true = (Given o, record old { lock = written_by o.number old.lock })
write_reply old o false false = (Rested, waiting wish.Write o old)

abbrev leave_reply : RwLockValue → ℕ → Bool → Reply RwLockValue
leave_reply old u true = (Woke (woken (left_by u old)), passed_on (left_by u old))
leave_reply old u false = (Coded code.NotHolder, old)

abbrev held_reply : RwLockValue → Bool → Reply RwLockValue
held_reply old true = (Number old.lock.number, old)
held_reply old false = (Coded code.NotHolder, old)

abbrev written_reply : RwLockValue → ℕ → Bool → Reply RwLockValue
written_reply old n true = (Coded code.Ok, record old { lock = record old.lock { number = n } })
written_reply old n false = (Coded code.NotHolder, old)

-- unit u reads less often than it may
abbrev is_below : ℕ → RwLockValue → Bool
is_below u old = nat_lt (count_of u old.lock) read_limit

abbrev rwlock_reply : RwLockValue → Act → Reply RwLockValue
rwlock_reply old (ReadLock o) = read_reply old o (writes o.number old.lock) (is_below o.number old) (may_read o.number old)
rwlock_reply old (WriteLock o) = write_reply old o (holds o.number old.lock) (is_free old.lock)
rwlock_reply old (RwUnlock u) = leave_reply old u (holds u old.lock)
rwlock_reply old (Load u) = held_reply old (holds u old.lock)
rwlock_reply old (Store u n) = written_reply old n (writes u old.lock)
rwlock_reply old act = (Rested, old)

or-first : (a b : Bool) → (a || b) ≡ false → a ≡ false
or-first true b e = e
or-first false b e = refl

-- a unit that must not read does not read
reads-none : (u : ℕ) (old : RwLockValue) → IsFalse (may_read u old) → is_below u old ≡ true
reads-none u old refused =
    let none : reads u old.lock ≡ false = or-first (reads u old.lock) _ refused in lt-ltb (count_of u old.lock) read_limit (omega (arith, ltb-false 0 (count_of u old.lock) none))

rwlock-replies : (old : RwLockValue) (act : Act) (answer : Answer) (new : RwLockValue) → RwLockGives old act answer new → ◌≡◌ {A = Reply RwLockValue} (answer, new) (rwlock_reply old act)
rwlock-replies old (ReadLock o) (Given b) new gives =
    (λ i. (Given (gives.3 i), gives.4 i)) ∙ sym (λ i. read_reply old o (gives.0 i) (lt-ltb (count_of o.number old.lock) read_limit gives.1 i) (gives.2 i))
rwlock-replies old (ReadLock o) Rested new gives = (λ i. (Rested, gives.2 i)) ∙ sym (λ i. read_reply old o (gives.0 i) (reads-none o.number old gives.1 i) (gives.1 i))
rwlock-replies old (ReadLock o) (Back b code.RwHeld) new gives =
    (λ i. (Back (gives.1 i) code.RwHeld, gives.2 i)) ∙ sym (ap (λ w. read_reply old o w (is_below o.number old) (may_read o.number old)) gives.0)
rwlock-replies old (ReadLock o) (Back b code.RwFull) new gives =
    (λ i. (Back (gives.2 i) code.RwFull, gives.3 i)) ∙ sym (λ i. read_reply old o (gives.0 i) (le-ltb (count_of o.number old.lock) read_limit gives.1 i) (may_read o.number old))
rwlock-replies old (WriteLock o) (Given b) new gives = (λ i. (Given (gives.2 i), gives.3 i)) ∙ sym (λ i. write_reply old o (gives.0 i) (gives.1 i))
rwlock-replies old (WriteLock o) Rested new gives = (λ i. (Rested, gives.2 i)) ∙ sym (λ i. write_reply old o (gives.0 i) (gives.1 i))
rwlock-replies old (WriteLock o) (Back b code.RwHeld) new gives = (λ i. (Back (gives.1 i) code.RwHeld, gives.2 i)) ∙ sym (ap (λ h. write_reply old o h (is_free old.lock)) gives.0)
rwlock-replies old (RwUnlock u) (Woke os) new gives = (λ i. (Woke (gives.1 i), gives.2 i)) ∙ sym (ap (leave_reply old u) gives.0)
rwlock-replies old (RwUnlock u) (Coded code.NotHolder) new gives = (λ i. (Coded code.NotHolder, gives.1 i)) ∙ sym (ap (leave_reply old u) gives.0)
rwlock-replies old (Load u) (Number n) new gives = (λ i. (Number (gives.1 i), gives.2 i)) ∙ sym (ap (held_reply old) gives.0)
rwlock-replies old (Load u) (Coded code.NotHolder) new gives = (λ i. (Coded code.NotHolder, gives.1 i)) ∙ sym (ap (held_reply old) gives.0)
rwlock-replies old (Store u n) (Coded code.Ok) new gives = (λ i. (Coded code.Ok, gives.1 i)) ∙ sym (ap (written_reply old n) gives.0)
rwlock-replies old (Store u n) (Coded code.NotHolder) new gives = (λ i. (Coded code.NotHolder, gives.1 i)) ∙ sym (ap (written_reply old n) gives.0)
rwlock-replies old act answer new gives = absurd gives

abbrev GivesRwLock : RwLockValue → Act → Reply RwLockValue → Type 0
GivesRwLock old act reply = RwLockGives old act reply.0 reply.1

read-gives : (old : RwLockValue) (o : Owned) (w b m : Bool) → writes o.number old.lock ≡ w → is_below o.number old ≡ b → may_read o.number old ≡ m → GivesRwLock old (ReadLock o) (read_reply old o w b m)
read-gives old o true b m is below may = (is, refl, refl)
read-gives old o false false m is below may = (is, ltb-false (count_of o.number old.lock) read_limit below, refl, refl)
read-gives old o false true true is below may = (is, ltb-true (count_of o.number old.lock) read_limit below, may, refl, refl)
read-gives old o false true false is below may = (is, may, refl)

write-gives : (old : RwLockValue) (o : Owned) (h f : Bool) → holds o.number old.lock ≡ h → is_free old.lock ≡ f → GivesRwLock old (WriteLock o) (write_reply old o h f)
write-gives old o true f is free = (is, refl, refl)
write-gives old o false true is free = (is, free, refl, refl)
write-gives old o false false is free = (is, free, refl)

leave-gives : (old : RwLockValue) (u : ℕ) (h : Bool) → holds u old.lock ≡ h → GivesRwLock old (RwUnlock u) (leave_reply old u h)
leave-gives old u true is = (is, refl, refl)
leave-gives old u false is = (is, refl)

held-gives : (old : RwLockValue) (u : ℕ) (h : Bool) → holds u old.lock ≡ h → GivesRwLock old (Load u) (held_reply old h)
held-gives old u true is = (is, refl, refl)
held-gives old u false is = (is, refl)

written-gives : (old : RwLockValue) (u n : ℕ) (w : Bool) → writes u old.lock ≡ w → GivesRwLock old (Store u n) (written_reply old n w)
written-gives old u n true is = (is, refl)
written-gives old u n false is = (is, refl)

rwlock-gives : (old : RwLockValue) (act : Act) → RwLockAllows act → GivesRwLock old act (rwlock_reply old act)
rwlock-gives old (ReadLock o) allowed = read-gives old o (writes o.number old.lock) (is_below o.number old) (may_read o.number old) refl refl refl
rwlock-gives old (WriteLock o) allowed = write-gives old o (holds o.number old.lock) (is_free old.lock) refl refl
rwlock-gives old (RwUnlock u) allowed = leave-gives old u (holds u old.lock) refl
rwlock-gives old (Load u) allowed = held-gives old u (holds u old.lock) refl
rwlock-gives old (Store u n) allowed = written-gives old u n (writes u old.lock) refl
rwlock-gives old act allowed = absurd allowed

-- Objects of all kinds.

pub allowed-is-answered : AllowedIsAnswered
allowed-is-answered (PoolIs old) act allowed = let reply : Reply PoolValue = pool_reply old act in (reply.0, PoolIs reply.1, (reply.1, refl, pool-gives old act allowed))
allowed-is-answered (DeskIs old) act allowed = let reply : Reply DeskValue = desk_reply old act in (reply.0, DeskIs reply.1, (reply.1, refl, desk-gives old act allowed))
allowed-is-answered (MonitorIs old) act allowed = let reply : Reply MonitorValue = monitor_reply old act in (reply.0, MonitorIs reply.1, (reply.1, refl, monitor-gives old act allowed))
allowed-is-answered (EventualIs old) act allowed = let reply : Reply EventualValue = eventual_reply old act in (reply.0, EventualIs reply.1, (reply.1, refl, eventual-gives old act allowed))
allowed-is-answered (FutureIs old) act allowed = let reply : Reply FutureValue = future_reply old act in (reply.0, FutureIs reply.1, (reply.1, refl, future-gives old act allowed))
allowed-is-answered (BarrierIs old) act allowed = let reply : Reply BarrierValue = barrier_reply old act in (reply.0, BarrierIs reply.1, (reply.1, refl, barrier-gives old act allowed))
allowed-is-answered (RwLockIs old) act allowed = let reply : Reply RwLockValue = rwlock_reply old act in (reply.0, RwLockIs reply.1, (reply.1, refl, rwlock-gives old act allowed))
allowed-is-answered NotHere act allowed = absurd allowed

-- two replies that are one, in an object
same : {Value : Type 0} (is : Value → Object) (a b : Answer) (m n : Object) (v w : Value) (reply : Reply Value)
    → m ≡ is v → n ≡ is w → ◌≡◌ {A = Reply Value} (a, v) reply → ◌≡◌ {A = Reply Value} (b, w) reply → (a ≡ b) × (m ≡ n)
same is a b m n v w reply at to one other =
    let e : ◌≡◌ (a, v) (b, w) = one ∙ sym other in (ap (λ r. r.0) e, at ∙ (ap (λ r. is r.1) e ∙ sym to))

pub one-answer : OneAnswer
one-answer (PoolIs old) act a b m n one other = same (λ v. PoolIs v) a b m n one.0 other.0 (pool_reply old act) one.1 other.1 (pool-replies old act a one.0 one.2) (pool-replies old act b other.0 other.2)
one-answer (DeskIs old) act a b m n one other = same (λ v. DeskIs v) a b m n one.0 other.0 (desk_reply old act) one.1 other.1 (desk-replies old act a one.0 one.2) (desk-replies old act b other.0 other.2)
one-answer (MonitorIs old) act a b m n one other = same (λ v. MonitorIs v) a b m n one.0 other.0 (monitor_reply old act) one.1 other.1 (monitor-replies old act a one.0 one.2) (monitor-replies old act b other.0 other.2)
one-answer (EventualIs old) act a b m n one other = same (λ v. EventualIs v) a b m n one.0 other.0 (eventual_reply old act) one.1 other.1 (eventual-replies old act a one.0 one.2) (eventual-replies old act b other.0 other.2)
one-answer (FutureIs old) act a b m n one other = same (λ v. FutureIs v) a b m n one.0 other.0 (future_reply old act) one.1 other.1 (future-replies old act a one.0 one.2) (future-replies old act b other.0 other.2)
one-answer (BarrierIs old) act a b m n one other = same (λ v. BarrierIs v) a b m n one.0 other.0 (barrier_reply old act) one.1 other.1 (barrier-replies old act a one.0 one.2) (barrier-replies old act b other.0 other.2)
one-answer (RwLockIs old) act a b m n one other = same (λ v. RwLockIs v) a b m n one.0 other.0 (rwlock_reply old act) one.1 other.1 (rwlock-replies old act a one.0 one.2) (rwlock-replies old act b other.0 other.2)
one-answer NotHere act a b m n one other = absurd one
