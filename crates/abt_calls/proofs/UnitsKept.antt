-- Calls keep each unit.
use Rattle.std.proofs.Common.{◌≡◌, ℕ, ◌+◌, ◌<◌, ◌==◌, Bool, true, false, List, [], ◌∷◌, ◌++◌, length, map, Option, Some, None, option_map, refl, sym, ◌∙◌, ap, subst, arith}
use Rattle.std.specs.Prelude.{◌&&◌, if◌then◌else◌}
use Rattle.abt_machine.specs.declared.events.Cause.{Cause}
use Rattle.abt_machine.specs.declared.events.Code.TheVariants as code
use Rattle.abt_machine.specs.declared.operations.Side.{Side}
use Rattle.abt_machine.specs.declared.operations.Side.TheVariants as side
use Rattle.abt_machine.specs.Queues.{first, first_alone}
use Rattle.abt_machine.specs.Values.{Owned, Phase, Unborn, Out, Suspended, Ended, Object, PoolIs, DeskIs, MonitorIs, EventualIs, FutureIs, BarrierIs, RwLockIs, NotHere, PoolValue, DeskValue, MonitorValue, EventualValue, FutureValue, BarrierValue, RwLockValue}
use Rattle.abt_machine.specs.Acts.{Act, Put, Take, Remove, Create, End, Join, AskCancel, AskMigrate, Look, Suspend, Resume, Revive, SetMigratable, Lock, TryLock, Unlock, Load, Store, Wait, Signal, Broadcast, Await, Fill, Reset, Test, Arrive, ReadLock, WriteLock, RwUnlock, Answer, Given, Through, Woke, Rested, Miss, Number, Asks, Coded, Back, received, reborn}
use Rattle.abt_machine.specs.Pools.{PoolGives, with_end, without}
use Rattle.abt_machine.specs.Desks.{DeskGives, ended_in, is_out, suspended_in, takes_back, unborn_in, with_ended, with_joiner, with_phase}
use Rattle.abt_machine.specs.Monitors.{MonitorGives, admitted_by, after_broadcast, after_signal, after_wait, all_admitted, at_condition, handed_over, new_owner, number_of, rest, with_condition, with_owner}
use Rattle.abt_machine.specs.Eventuals.{EventualGives}
use Rattle.abt_machine.specs.Futures.{FutureGives, is_ready, left_waiting, with_one_more, woken_by}
use Rattle.abt_machine.specs.Barriers.{BarrierGives}
use Rattle.abt_machine.specs.RwLocks.{RwLockGives, left_by, passed_on, woken}
use Rattle.abt_machine.specs.Gives.{SiteGives}
use Rattle.abt_laws.proofs.Granted.{woken-prefix}
use Rattle.abt_laws.proofs.Options.{none≢some, some-injective}
use Rattle.abt_chain.specs.Keeping.{contents_asked, contents_answered}
use Rattle.abt_pool.specs.Keeps.{contents_of_pool}
use Rattle.abt_desk.specs.Keeps.{contents_of_desk, held_in}
use Rattle.abt_monitor.specs.Keeps.{contents_of_monitor}
use Rattle.abt_calls.specs.Allowed.{MonitorAllows, Allows}
use Rattle.abt_calls.specs.Keeps.{contents_of}
use Rattle.abt_calls.specs.Effects.{unit_in}
use Rattle.abt_calls.specs.Units.{CallsKeepUnits}
use Rattle.abt_calls.proofs.Suited.{received-by}
use Rattle.abt_calls.proofs.Tallies.{tally, tally_all, tally-append, tally-cons, tally-first_alone, tally-nil, tally-number, tally-received, tally-rest, tally-set, tally-without, times-from}

-- as many units before as afterwards
abbrev Even : ℕ → List Owned → List Owned → List Owned → List Owned → Type 0
Even u asked old answered new = tally u asked + tally u old ≡ tally u answered + tally u new

module _ (u : ℕ) where
  -- What most calls do with the units that an object has.

  -- they stay
  stays : (old new : List Owned) → tally u new ≡ tally u old → Even u [] old [] new
  stays old new e = omega (arith, e)

  -- they stay, and a unit comes straight back
  comes-back : (old new : List Owned) (o b : Owned) → b.number ≡ o.number → tally u new ≡ tally u old → Even u (o ∷ []) old (b ∷ []) new
  comes-back old new o b is e = omega (arith, e, tally-number u b o is)

  -- a unit comes to wait behind them
  comes : (old new : List Owned) (o : Owned) → tally u new ≡ tally u (old ++ o ∷ []) → Even u (o ∷ []) old [] new
  comes old new o e = omega (arith, e, tally-append u old (o ∷ []), tally-nil u)

  -- Pools.

  abbrev pool_tally : PoolValue → ℕ
  pool_tally pool = tally u pool.units

  end-tally : (d : Side) (o : Owned) (os : List Owned) → tally u (with_end d o os) ≡ tally u (o ∷ []) + tally u os
  end-tally side.Front o os = tally-cons u o os
  end-tally side.Back o os = omega (arith, tally-append u os (o ∷ []))

  pool-even : (old : PoolValue) (act : Act) (answer : Answer) (new : PoolValue) → PoolGives old act answer new
      → Even u (contents_asked act).units (contents_of_pool old).units (contents_answered answer).units (contents_of_pool new).units
  pool-even old (Put o) Rested new gives = comes old.units new.units o (ap pool_tally gives)
  pool-even old (Take d) (Given o) new gives =
      let e : tally u old.units ≡ tally u (with_end d o new.units) = ap (tally u) gives.1 in omega (arith, e, end-tally d o new.units, tally-nil u)
  pool-even old (Take d) Miss new gives = stays old.units new.units (ap pool_tally gives.2)
  pool-even old (Remove v) (Given o) new gives =
      let e : tally u new.units ≡ tally u (without v old.units) = ap pool_tally gives.1 in omega (arith, e, tally-without u v old.units o gives.0, tally-nil u)
  pool-even old (Remove v) (Coded code.Absent) new gives = stays old.units new.units (ap pool_tally gives.1)
  pool-even old act answer new gives = absurd gives

  -- Desks.

  abbrev desk_units : DeskValue → List Owned
  desk_units desk = (contents_of_desk desk).units

  abbrev desk_tally : DeskValue → ℕ
  desk_tally desk = tally u (desk_units desk)

  unborn-held : (p : ℕ) (phase : Phase) (o : Owned) → option_map (reborn p) (unborn_in phase) ≡ Some o → tally u (held_in phase) ≡ tally u (o ∷ [])
  unborn-held p (Unborn x) o e = let same : reborn p x ≡ o = some-injective e in tally-number u x o (ap (λ q. q.number) same)
  unborn-held p Out o e = absurd (none≢some e)
  unborn-held p (Suspended x) o e = absurd (none≢some e)
  unborn-held p (Ended x c) o e = absurd (none≢some e)

  suspended-held : (phase : Phase) (o : Owned) → suspended_in phase ≡ Some o → tally u (held_in phase) ≡ tally u (o ∷ [])
  suspended-held (Unborn x) o e = absurd (none≢some e)
  suspended-held Out o e = absurd (none≢some e)
  suspended-held (Suspended x) o e = ap (λ q. tally u (q ∷ [])) (some-injective e)
  suspended-held (Ended x c) o e = absurd (none≢some e)

  ended-held : (p : ℕ) (phase : Phase) (o : Owned) → option_map (reborn p) (ended_in phase) ≡ Some o → tally u (held_in phase) ≡ tally u (o ∷ [])
  ended-held p (Unborn x) o e = absurd (none≢some e)
  ended-held p Out o e = absurd (none≢some e)
  ended-held p (Suspended x) o e = absurd (none≢some e)
  ended-held p (Ended x c) o e = let same : reborn p x ≡ o = some-injective e in tally-number u x o (ap (λ q. q.number) same)

  -- a desk that is out holds no unit of its own
  out-held : (phase : Phase) (own : Bool) → (is_out phase && own) ≡ true → tally u (held_in phase) ≡ 0
  out-held (Unborn x) own e = cc
  out-held Out own e = tally-nil u
  out-held (Suspended x) own e = cc
  out-held (Ended x c) own e = cc

  -- a unit comes out of its desk
  comes-out : (old : DeskValue) (o : Owned) (new : DeskValue) → tally u (held_in old.phase) ≡ tally u (o ∷ []) → new ≡ with_phase Out old → Even u [] (desk_units old) (o ∷ []) (desk_units new)
  comes-out old o new held gives =
      let e : desk_tally new ≡ tally u old.joiners = ap desk_tally gives in omega (arith, e, held, tally-append u (held_in old.phase) old.joiners, tally-nil u)

  joins : (old : DeskValue) (o : Owned) (new : DeskValue) → new ≡ with_joiner o old → Even u (o ∷ []) (desk_units old) [] (desk_units new)
  joins old o new gives =
      let e : desk_tally new ≡ tally u (held_in old.phase ++ (old.joiners ++ o ∷ [])) = ap desk_tally gives in
      omega (arith, e, tally-append u (held_in old.phase) (old.joiners ++ o ∷ []), tally-append u old.joiners (o ∷ []), tally-append u (held_in old.phase) old.joiners, tally-nil u)

  ends : (old : DeskValue) (o : Owned) (cause : Cause) (os : List Owned) (new : DeskValue) (b : Bool) → takes_back old o ≡ b
      → os ≡ (if b then old.joiners else []) → new ≡ (if b then with_ended o cause old else with_joiner o old) → Even u (o ∷ []) (desk_units old) os (desk_units new)
  ends old o cause os new true is woken gives =
      let e : desk_tally new ≡ tally u (o ∷ []) = ap desk_tally gives in
      let w : tally u os ≡ tally u old.joiners = ap (tally u) woken in
      omega (arith, e, w, out-held old.phase (o.number == old.number) is, tally-append u (held_in old.phase) old.joiners)
  ends old o cause os new false is woken gives = subst (λ qs. Even u (o ∷ []) (desk_units old) qs (desk_units new)) (sym woken) (joins old o new gives)

  suspends : (old : DeskValue) (o : Owned) (new : DeskValue) (b : Bool) → takes_back old o ≡ b
      → new ≡ (if b then with_phase (Suspended o) old else with_joiner o old) → Even u (o ∷ []) (desk_units old) [] (desk_units new)
  suspends old o new true is gives =
      let e : desk_tally new ≡ tally u (o ∷ old.joiners) = ap desk_tally gives in
      omega (arith, e, out-held old.phase (o.number == old.number) is, tally-append u (held_in old.phase) old.joiners, tally-cons u o old.joiners, tally-nil u)
  suspends old o new false is gives = joins old o new gives

  desk-even : (old : DeskValue) (act : Act) (answer : Answer) (new : DeskValue) → DeskGives old act answer new
      → Even u (contents_asked act).units (desk_units old) (contents_answered answer).units (desk_units new)
  desk-even old (Create p) (Given o) new gives = comes-out old o new (unborn-held p old.phase o gives.0) gives.1
  desk-even old (Create p) (Coded code.Exists) new gives = stays (desk_units old) (desk_units new) (ap desk_tally gives.1)
  desk-even old (End o cause) (Woke os) new gives = ends old o cause os new (takes_back old o) refl gives.0 gives.1
  desk-even old (Join o) (Given b) new gives = comes-back (desk_units old) (desk_units new) o b (ap number_of gives.1) (ap desk_tally gives.2)
  desk-even old (Join o) Rested new gives = joins old o new gives.1
  desk-even old AskCancel (Coded code.Ok) new gives = stays (desk_units old) (desk_units new) (ap desk_tally gives.1)
  desk-even old AskCancel (Coded code.UnitState) new gives = stays (desk_units old) (desk_units new) (ap desk_tally gives.1)
  desk-even old (AskMigrate p) (Coded code.Ok) new gives = stays (desk_units old) (desk_units new) (ap desk_tally gives.2)
  desk-even old (AskMigrate p) (Coded code.UnitState) new gives = stays (desk_units old) (desk_units new) (ap desk_tally gives.1)
  desk-even old (AskMigrate p) (Coded code.NotMigratable) new gives = stays (desk_units old) (desk_units new) (ap desk_tally gives.2)
  desk-even old Look (Asks cancel migrate) new gives = stays (desk_units old) (desk_units new) (ap desk_tally gives.2)
  desk-even old (Suspend o) Rested new gives = suspends old o new (takes_back old o) refl gives
  desk-even old Resume (Given o) new gives = comes-out old o new (suspended-held old.phase o gives.0) gives.1
  desk-even old Resume (Coded code.UnitState) new gives = stays (desk_units old) (desk_units new) (ap desk_tally gives.1)
  desk-even old (Revive p) (Given o) new gives = comes-out old o new (ended-held p old.phase o gives.0) gives.1
  desk-even old (Revive p) (Coded code.UnitState) new gives = stays (desk_units old) (desk_units new) (ap desk_tally gives.1)
  desk-even old (SetMigratable allowed) (Coded code.Ok) new gives = stays (desk_units old) (desk_units new) (ap desk_tally gives.1)
  desk-even old (SetMigratable allowed) (Coded code.NotMigratable) new gives = stays (desk_units old) (desk_units new) (ap desk_tally gives.1)
  desk-even old act answer new gives = absurd gives

  -- Monitors.

  abbrev monitor_units : MonitorValue → List Owned
  monitor_units m = (contents_of_monitor m).units

  abbrev monitor_tally : MonitorValue → ℕ
  monitor_tally m = tally u (monitor_units m)

  monitor-parts : (m : MonitorValue) → monitor_tally m ≡ tally u m.waiters + tally_all u m.conds
  monitor-parts m = tally-append u m.waiters _

  -- a unit that comes out, if one does
  out-of : (f : Option Owned) (b : Owned) → f ≡ Some b → tally u (unit_in f) ≡ tally u (b ∷ [])
  out-of f b e = ap (λ g. tally u (unit_in g)) e

  none-of : (f : Option Owned) → f ≡ None → tally u (unit_in f) ≡ 0
  none-of f e = ap (λ g. tally u (unit_in g)) e ∙ tally-nil u

  -- of those that are admitted one comes out at most, and the others wait
  admits-by : (o : Owned) (os : List Owned) (m : MonitorValue) (owner : Option ℕ) → m.owner ≡ owner
      → ((k : MonitorValue) → monitor_tally k + tally u os ≡ tally u (unit_in (new_owner k.owner os)) + monitor_tally (all_admitted os k))
      → monitor_tally m + tally u (o ∷ os) ≡ tally u (unit_in (new_owner owner (o ∷ os))) + monitor_tally (all_admitted os (admitted_by owner o m))
  admits-by o os m None is go =
      let h : monitor_tally m + tally u os ≡ tally u [] + monitor_tally (all_admitted os (with_owner (Some o.number) m)) = go (with_owner (Some o.number) m) in
      omega (arith, h, tally-cons u o os, tally-nil u)
  admits-by o os m (Some v) is go =
      let k : MonitorValue = record m { waiters = m.waiters ++ o ∷ [] } in
      let h : monitor_tally k + tally u os ≡ tally u (unit_in (new_owner m.owner os)) + monitor_tally (all_admitted os k) = go k in
      let e : tally u (unit_in (new_owner m.owner os)) ≡ tally u [] = ap (λ w. tally u (unit_in (new_owner w os))) is in
      omega (arith, h, e, monitor-parts k, monitor-parts m, tally-append u m.waiters (o ∷ []), tally-cons u o os, tally-nil u)

  admits : (os : List Owned) (m : MonitorValue) → monitor_tally m + tally u os ≡ tally u (unit_in (new_owner m.owner os)) + monitor_tally (all_admitted os m)
  admits [] m = let e : tally u (unit_in (new_owner m.owner [])) ≡ 0 = none m.owner in omega (arith, e, tally-nil u) where
    none : (w : Option ℕ) → tally u (unit_in (new_owner w [])) ≡ 0
    none None = tally-nil u
    none (Some v) = tally-nil u
  admits (o ∷ os) m = admits-by o os m m.owner refl (λ k. admits os k)

  -- a condition's list becomes another
  condition-tally : (k : ℕ) (os : List Owned) (m : MonitorValue) → k < length m.conds → monitor_tally (with_condition k os m) + tally u (at_condition k m) ≡ monitor_tally m + tally u os
  condition-tally k os m l = omega (arith, tally-set u m.conds k os l, monitor-parts (with_condition k os m), monitor-parts m)

  -- the mutex is handed over
  hands-over : (m : MonitorValue) → monitor_tally m ≡ tally u (unit_in (first m.waiters)) + monitor_tally (handed_over m)
  hands-over m = omega (arith, monitor-parts m, monitor-parts (handed_over m), tally-rest u m.waiters)

  -- a unit waits at a condition
  waits : (k : ℕ) (o : Owned) (m : MonitorValue) → k < length m.conds → tally u (o ∷ []) + monitor_tally m ≡ tally u (unit_in (first m.waiters)) + monitor_tally (after_wait k o m)
  waits k o m l =
      omega (arith, hands-over (with_condition k (at_condition k m ++ o ∷ []) m), condition-tally k (at_condition k m ++ o ∷ []) m l, tally-append u (at_condition k m) (o ∷ []))

  first-owner : (owner : Option ℕ) (os : List Owned) → new_owner owner (first_alone os) ≡ new_owner owner os
  first-owner None [] = refl
  first-owner None (o ∷ os) = refl
  first-owner (Some v) os = refl

  signals : (k : ℕ) (m : MonitorValue) → k < length m.conds → monitor_tally m ≡ tally u (unit_in (new_owner m.owner (at_condition k m))) + monitor_tally (after_signal k m)
  signals k m l =
      let c : MonitorValue = with_condition k (rest (at_condition k m)) m in
      let e : tally u (unit_in (new_owner m.owner (first_alone (at_condition k m)))) ≡ tally u (unit_in (new_owner m.owner (at_condition k m))) = ap (λ f. tally u (unit_in f)) (first-owner m.owner (at_condition k m)) in
      omega (arith, e, admits (first_alone (at_condition k m)) c, condition-tally k (rest (at_condition k m)) m l, tally-first_alone u (at_condition k m), tally-rest u (at_condition k m))

  broadcasts : (k : ℕ) (m : MonitorValue) → k < length m.conds → monitor_tally m ≡ tally u (unit_in (new_owner m.owner (at_condition k m))) + monitor_tally (after_broadcast k m)
  broadcasts k m l = omega (arith, admits (at_condition k m) (with_condition k [] m), condition-tally k [] m l, tally-nil u)

  monitor-even : (old : MonitorValue) (act : Act) (answer : Answer) (new : MonitorValue) → MonitorGives old act answer new → MonitorAllows (length old.conds) act
      → Even u (contents_asked act).units (monitor_units old) (contents_answered answer).units (monitor_units new)
  monitor-even old (Lock o) (Given b) new gives allowed = comes-back (monitor_units old) (monitor_units new) o b (ap number_of gives.1) (ap monitor_tally gives.2)
  monitor-even old (Lock o) Rested new gives allowed =
      let k : MonitorValue = record old { waiters = old.waiters ++ o ∷ [] } in
      let e : monitor_tally new ≡ monitor_tally k = ap monitor_tally gives.1 in
      omega (arith, e, monitor-parts k, monitor-parts old, tally-append u old.waiters (o ∷ []), tally-nil u)
  monitor-even old (TryLock v) (Coded code.Ok) new gives allowed = stays (monitor_units old) (monitor_units new) (ap monitor_tally gives.1)
  monitor-even old (TryLock v) (Coded code.MutexLocked) new gives allowed = stays (monitor_units old) (monitor_units new) (ap monitor_tally gives.1)
  monitor-even old (Unlock v) (Given b) new gives allowed =
      let e : monitor_tally new ≡ monitor_tally (handed_over old) = ap monitor_tally gives.2 in omega (arith, e, hands-over old, out-of (first old.waiters) b gives.1, tally-nil u)
  monitor-even old (Unlock v) Rested new gives allowed =
      let e : monitor_tally new ≡ monitor_tally (handed_over old) = ap monitor_tally gives.2 in omega (arith, e, hands-over old, none-of (first old.waiters) gives.1, tally-nil u)
  monitor-even old (Unlock v) (Coded code.NotOwner) new gives allowed = stays (monitor_units old) (monitor_units new) (ap monitor_tally gives.1)
  monitor-even old (Load v) (Number n) new gives allowed = stays (monitor_units old) (monitor_units new) (ap monitor_tally gives.2)
  monitor-even old (Load v) (Coded code.NotOwner) new gives allowed = stays (monitor_units old) (monitor_units new) (ap monitor_tally gives.1)
  monitor-even old (Store v n) (Coded code.Ok) new gives allowed = stays (monitor_units old) (monitor_units new) (ap monitor_tally gives.1)
  monitor-even old (Store v n) (Coded code.NotOwner) new gives allowed = stays (monitor_units old) (monitor_units new) (ap monitor_tally gives.1)
  monitor-even old (Wait k o) (Given b) new gives allowed =
      let e : monitor_tally new ≡ monitor_tally (after_wait k o old) = ap monitor_tally gives.2 in omega (arith, e, waits k o old allowed, out-of (first old.waiters) b gives.1)
  monitor-even old (Wait k o) Rested new gives allowed =
      let e : monitor_tally new ≡ monitor_tally (after_wait k o old) = ap monitor_tally gives.2 in omega (arith, e, waits k o old allowed, none-of (first old.waiters) gives.1, tally-nil u)
  monitor-even old (Wait k o) (Back b code.NotOwner) new gives allowed = comes-back (monitor_units old) (monitor_units new) o b (ap number_of gives.1) (ap monitor_tally gives.2)
  monitor-even old (Signal k) (Given b) new gives allowed =
      let e : monitor_tally new ≡ monitor_tally (after_signal k old) = ap monitor_tally gives.1 in omega (arith, e, signals k old allowed, out-of (new_owner old.owner (at_condition k old)) b gives.0, tally-nil u)
  monitor-even old (Signal k) Rested new gives allowed =
      let e : monitor_tally new ≡ monitor_tally (after_signal k old) = ap monitor_tally gives.1 in omega (arith, e, signals k old allowed, none-of (new_owner old.owner (at_condition k old)) gives.0, tally-nil u)
  monitor-even old (Broadcast k) (Given b) new gives allowed =
      let e : monitor_tally new ≡ monitor_tally (after_broadcast k old) = ap monitor_tally gives.1 in omega (arith, e, broadcasts k old allowed, out-of (new_owner old.owner (at_condition k old)) b gives.0, tally-nil u)
  monitor-even old (Broadcast k) Rested new gives allowed =
      let e : monitor_tally new ≡ monitor_tally (after_broadcast k old) = ap monitor_tally gives.1 in omega (arith, e, broadcasts k old allowed, none-of (new_owner old.owner (at_condition k old)) gives.0, tally-nil u)
  monitor-even old act answer new gives allowed = absurd gives

  -- Eventuals.

  abbrev eventual_tally : EventualValue → ℕ
  eventual_tally e = tally u e.waiters

  eventual-even : (old : EventualValue) (act : Act) (answer : Answer) (new : EventualValue) → EventualGives old act answer new
      → Even u (contents_asked act).units old.waiters (contents_answered answer).units new.waiters
  eventual-even old (Await o) (Given b) new gives =
      let value : (n : ℕ) × (b ≡ received n o) = received-by old.value o b gives.0 in comes-back old.waiters new.waiters o b (ap number_of value.1) (ap eventual_tally gives.1)
  eventual-even old (Await o) Rested new gives = comes old.waiters new.waiters o (ap eventual_tally gives.1)
  eventual-even old (Fill n) (Woke os) new gives =
      let e : eventual_tally new ≡ tally u [] = ap eventual_tally gives.2 in
      let w : tally u os ≡ tally u (map (received n) old.waiters) = ap (tally u) gives.1 in omega (arith, e, w, tally-received u n old.waiters)
  eventual-even old (Fill n) (Coded code.EventualSet) new gives = stays old.waiters new.waiters (ap eventual_tally gives.1)
  eventual-even old Reset Rested new gives = stays old.waiters new.waiters (ap eventual_tally gives)
  eventual-even old Test (Number n) new gives = stays old.waiters new.waiters (ap eventual_tally gives.1)
  eventual-even old act answer new gives = absurd gives

  -- Futures.

  abbrev future_tally : FutureValue → ℕ
  future_tally f = tally u f.waiters

  -- those that are woken, and those that still wait
  wakes-by : (n : ℕ) (os : List Owned) (b : Bool) → tally u (if b then map (received n) os else []) + tally u (if b then [] else os) ≡ tally u os
  wakes-by n os true = omega (arith, tally-received u n os, tally-nil u)
  wakes-by n os false = omega (arith, tally-nil u)

  future-even : (old : FutureValue) (act : Act) (answer : Answer) (new : FutureValue) → FutureGives old act answer new
      → Even u (contents_asked act).units old.waiters (contents_answered answer).units new.waiters
  future-even old (Await o) (Given b) new gives = comes-back old.waiters new.waiters o b (ap number_of gives.1) (ap future_tally gives.2)
  future-even old (Await o) Rested new gives = comes old.waiters new.waiters o (ap future_tally gives.1)
  future-even old (Fill n) (Woke os) new gives =
      let f : FutureValue = with_one_more n old in
      let e : future_tally new ≡ tally u (left_waiting f).waiters = ap future_tally gives.2 in
      let w : tally u os ≡ tally u (woken_by f) = ap (tally u) gives.1 in
      let h : tally u (woken_by f) + tally u (left_waiting f).waiters ≡ tally u f.waiters = wakes-by f.value f.waiters (is_ready f) in omega (arith, e, w, h, tally-nil u)
  future-even old (Fill n) (Coded code.FutureFull) new gives = stays old.waiters new.waiters (ap future_tally gives.1)
  future-even old Reset Rested new gives = stays old.waiters new.waiters (ap future_tally gives)
  future-even old Test (Number n) new gives = stays old.waiters new.waiters (ap future_tally gives.1)
  future-even old act answer new gives = absurd gives

  -- Barriers.

  abbrev barrier_tally : BarrierValue → ℕ
  barrier_tally b = tally u b.waiters

  barrier-even : (old : BarrierValue) (act : Act) (answer : Answer) (new : BarrierValue) → BarrierGives old act answer new
      → Even u (contents_asked act).units old.waiters (contents_answered answer).units new.waiters
  barrier-even old (Arrive o) (Through b os) new gives =
      let e : barrier_tally new ≡ tally u [] = ap barrier_tally gives.3 in
      let w : tally u os ≡ tally u old.waiters = ap (tally u) gives.2 in
      let f : tally u (b ∷ []) ≡ tally u (o ∷ []) = ap (λ q. tally u (q ∷ [])) gives.1 in omega (arith, e, w, f, tally-cons u b os, tally-nil u)
  barrier-even old (Arrive o) Rested new gives = comes old.waiters new.waiters o (ap barrier_tally gives.1)
  barrier-even old act answer new gives = absurd gives

  -- Reader-writer locks.

  abbrev rwlock_tally : RwLockValue → ℕ
  rwlock_tally l = tally u l.waiters

  rwlock-even : (old : RwLockValue) (act : Act) (answer : Answer) (new : RwLockValue) → RwLockGives old act answer new
      → Even u (contents_asked act).units old.waiters (contents_answered answer).units new.waiters
  rwlock-even old (ReadLock o) (Given b) new gives = comes-back old.waiters new.waiters o b (ap number_of gives.3) (ap rwlock_tally gives.4)
  rwlock-even old (ReadLock o) Rested new gives = comes old.waiters new.waiters o (ap rwlock_tally gives.2)
  rwlock-even old (ReadLock o) (Back b code.RwHeld) new gives = comes-back old.waiters new.waiters o b (ap number_of gives.1) (ap rwlock_tally gives.2)
  rwlock-even old (ReadLock o) (Back b code.RwFull) new gives = comes-back old.waiters new.waiters o b (ap number_of gives.2) (ap rwlock_tally gives.3)
  rwlock-even old (WriteLock o) (Given b) new gives = comes-back old.waiters new.waiters o b (ap number_of gives.2) (ap rwlock_tally gives.3)
  rwlock-even old (WriteLock o) Rested new gives = comes old.waiters new.waiters o (ap rwlock_tally gives.2)
  rwlock-even old (WriteLock o) (Back b code.RwHeld) new gives = comes-back old.waiters new.waiters o b (ap number_of gives.1) (ap rwlock_tally gives.2)
  rwlock-even old (RwUnlock v) (Woke os) new gives =
      let left : RwLockValue = left_by v old in
      let e : rwlock_tally new ≡ tally u (passed_on left).waiters = ap rwlock_tally gives.2 in
      let w : tally u os ≡ tally u (woken left) = ap (tally u) gives.1 in
      let h : tally u (woken left ++ (passed_on left).waiters) ≡ tally u old.waiters = ap (tally u) (woken-prefix left) in
      omega (arith, e, w, h, tally-append u (woken left) (passed_on left).waiters, tally-nil u)
  rwlock-even old (RwUnlock v) (Coded code.NotHolder) new gives = stays old.waiters new.waiters (ap rwlock_tally gives.1)
  rwlock-even old (Load v) (Number n) new gives = stays old.waiters new.waiters (ap rwlock_tally gives.2)
  rwlock-even old (Load v) (Coded code.NotHolder) new gives = stays old.waiters new.waiters (ap rwlock_tally gives.1)
  rwlock-even old (Store v n) (Coded code.Ok) new gives = stays old.waiters new.waiters (ap rwlock_tally gives.1)
  rwlock-even old (Store v n) (Coded code.NotHolder) new gives = stays old.waiters new.waiters (ap rwlock_tally gives.1)
  rwlock-even old act answer new gives = absurd gives

-- Objects of all kinds.

becomes : (u : ℕ) (asked old answered : List Owned) (new object : Object) → new ≡ object → Even u asked old answered (contents_of object).units → Even u asked old answered (contents_of new).units
becomes u asked old answered new object is even = subst (λ m. Even u asked old answered (contents_of m).units) (sym is) even

pub objects-even : (u : ℕ) (old : Object) (act : Act) (answer : Answer) (new : Object) → SiteGives old act answer new → Allows old act
    → Even u (contents_asked act).units (contents_of old).units (contents_answered answer).units (contents_of new).units
objects-even u (PoolIs old) act answer new gives allowed = becomes u _ _ _ new (PoolIs gives.0) gives.1 (pool-even u old act answer gives.0 gives.2)
objects-even u (DeskIs old) act answer new gives allowed = becomes u _ _ _ new (DeskIs gives.0) gives.1 (desk-even u old act answer gives.0 gives.2)
objects-even u (MonitorIs old) act answer new gives allowed = becomes u _ _ _ new (MonitorIs gives.0) gives.1 (monitor-even u old act answer gives.0 gives.2 allowed)
objects-even u (EventualIs old) act answer new gives allowed = becomes u _ _ _ new (EventualIs gives.0) gives.1 (eventual-even u old act answer gives.0 gives.2)
objects-even u (FutureIs old) act answer new gives allowed = becomes u _ _ _ new (FutureIs gives.0) gives.1 (future-even u old act answer gives.0 gives.2)
objects-even u (BarrierIs old) act answer new gives allowed = becomes u _ _ _ new (BarrierIs gives.0) gives.1 (barrier-even u old act answer gives.0 gives.2)
objects-even u (RwLockIs old) act answer new gives allowed = becomes u _ _ _ new (RwLockIs gives.0) gives.1 (rwlock-even u old act answer gives.0 gives.2)
objects-even u NotHere act answer new gives allowed = absurd gives

pub calls-keep-units : CallsKeepUnits
calls-keep-units old act answer new gives allowed u =
    times-from u (contents_asked act).units (contents_of old).units (contents_answered answer).units (contents_of new).units (objects-even u old act answer new gives allowed)
