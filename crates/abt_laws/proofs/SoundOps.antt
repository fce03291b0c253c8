-- Every step keeps a sound state sound: a line for each operation whose change needs a reason of its own.
use Rattle.std.proofs.Common.{◌≡◌, ℕ, ◌<◌, Bool, true, false, not, List, [], ◌∷◌, length, map, is_some, Option, Some, None, refl, sym, ◌∙◌, ap, subst, arith, inl}
use Rattle.std.proofs.lemmas.List.{length-set}
use Rattle.std.specs.Prelude.{IfSome}
use Rattle.abt_machine.specs.declared.events.Code.{Code}
use Rattle.abt_machine.specs.declared.events.Code.TheVariants as code
use Rattle.abt_machine.specs.declared.events.Piece.TheVariants as piece
use Rattle.abt_machine.specs.declared.events.Place.{Place}
use Rattle.abt_machine.specs.declared.events.Place.TheVariants as place
use Rattle.abt_machine.specs.declared.events.Spot.TheVariants as spot
use Rattle.abt_machine.specs.declared.events.What.TheVariants as what
use Rattle.abt_machine.specs.declared.operations.Op.{Op}
use Rattle.abt_machine.specs.declared.operations.Op.TheVariants as op
use Rattle.abt_machine.specs.Stored.{Stored}
use Rattle.abt_machine.specs.declared.workload.Parts.{Parts}
use Rattle.abt_machine.specs.Numbers.{object_no, stream_no, unit_no}
use Rattle.abt_machine.specs.Workloads.{op_at, mutex_of, combine_of}
use Rattle.abt_machine.specs.Sites.{first_pool}
use Rattle.abt_machine.specs.Carrying.{with_acc, advanced, printed, with_key}
use Rattle.abt_machine.specs.State.{State, Desk, Mutex, Future}
use Rattle.abt_machine.specs.Lines.{Waiting}
use Rattle.abt_machine.specs.Rounds.{OrdersStored}
use Rattle.abt_machine.specs.Codes.{code_of, code_at, is_alive, is_ended, is_full, is_in_pool, is_suspended, is_unborn, owned_by, reached_code}
use Rattle.abt_machine.specs.Holders.{holds, writes}
use Rattle.abt_machine.specs.Changes.{Change, goes_with}
use Rattle.abt_machine.specs.Steps.{op_row, step_row, filled_by}
use Rattle.abt_machine.specs.Operations.{IsDeclared}
use Rattle.abt_machine.specs.Events.{May, change}
use Rattle.abt_machine.specs.Sound.{Sound}
use Rattle.abt_machine.specs.Valid.{IsValid}
use Rattle.abt_machine.proofs.Declared.{op-declared, first_pool-declared, mutex-declared}
use Rattle.abt_laws.proofs.Codes.{reached-ok, unless-ok}
use Rattle.abt_laws.proofs.Lists.{EachOf, EachOf-made}
use Rattle.abt_laws.proofs.SoundChanges.{Keeps, CarriesWell, AsksWell, MutexHolds, EventualHolds, FutureHolds}
use Rattle.abt_laws.proofs.Wakes.{IsWakeable, wakeable-line, wakeable-first, frameless-by, off-by}
use Rattle.abt_laws.proofs.SoundSteps.{IsStepping, stepping, may-wake, carries-on, keeps-still, keeps-goes_with, keeps-wakes_only}
use Rattle.abt_laws.proofs.SoundUnits.{keeps-suspends, keeps-exits, keeps-joins, keeps-begins, keeps-yields_to}
use Rattle.abt_laws.proofs.SoundDesks.{keeps-cancels, keeps-migrates}
use Rattle.abt_laws.proofs.SoundMutexes.{keeps-stores, keeps-locks, keeps-hands_over}
use Rattle.abt_laws.proofs.SoundConditions.{condition-no_lock, keeps-releases, keeps-passes}
use Rattle.abt_laws.proofs.SoundEventuals.{keeps-sets, keeps-awaits_eventual}
use Rattle.abt_laws.proofs.SoundFutures.{keeps-awaits_future, keeps-fills}
use Rattle.abt_laws.proofs.SoundBarriers.{keeps-arrives}
use Rattle.abt_laws.proofs.SoundRwLocks.{keeps-reads_or_waits, keeps-writes_or_waits, keeps-gives_up, keeps-rw_stores}

module _ (W : Parts) (Z : Stored) (S : State) (s u : ℕ) (valid : IsValid W) (step : IsStepping W Z S s u) where
  -- Parts that keep a sound state sound where nobody moves, whatever the operation is: what u carries on its way, desks that are asked what they were,
  -- mutexes that have an owner, eventuals without a value, and futures without one.

  on : CarriesWell W u (advanced (S.carried u))
  on = carries-on W Z S s u step

  abbrev asked : Desk → Bool × Option ℕ
  asked d = (d.cancel, d.migrate)

  all-asked : (ds : List (ℕ × Desk)) → map (λ (m : ℕ × Desk). asked m.1) ds ≡ map (λ (m : ℕ × Desk). asked (S.desk m.0)) ds → EachOf (λ (m : ℕ × Desk). AsksWell W S m.0 m.1) ds
  all-asked ds same =
      EachOf-made (λ (m : ℕ × Desk). AsksWell W S m.0 m.1) (λ m. asked m.1) (λ m. asked (S.desk m.0)) ds
      (λ m e. record { asks = inl (λ none. (ap (λ p. p.0) e ∙ none.0, ap (λ p. p.1) e ∙ none.1)); request = subst (λ o. IfSome o (λ p. p < length W.pools)) (sym (ap (λ p. p.1) e)) (step.sound.requests m.0) }) same

  all-owned : (ms : List (ℕ × Mutex)) → map (λ (m : ℕ × Mutex). is_some m.1.owner) ms ≡ map (λ (m : ℕ × Mutex). true) ms → EachOf (λ (m : ℕ × Mutex). MutexHolds S.place m.0 m.1) ms
  all-owned ms same = EachOf-made (λ (m : ℕ × Mutex). MutexHolds S.place m.0 m.1) (λ m. is_some m.1.owner) (λ m. true) ms (λ m e. inl e) same

  all-unset : (es : List (ℕ × Option ℕ)) → map (λ (m : ℕ × Option ℕ). m.1) es ≡ map (λ (m : ℕ × Option ℕ). None) es → EachOf (λ (m : ℕ × Option ℕ). EventualHolds S.place m.0 m.1) es
  all-unset es same = EachOf-made (λ (m : ℕ × Option ℕ). EventualHolds S.place m.0 m.1) (λ m. m.1) (λ m. None) es (λ m e. inl e) same

  all-empty : (fs : List (ℕ × Future)) → map (λ (m : ℕ × Future). m.1.filled) fs ≡ map (λ (m : ℕ × Future). 0) fs → EachOf (λ (m : ℕ × Future). FutureHolds W S S.place m.0 m.1) fs
  all-empty fs same = EachOf-made (λ (m : ℕ × Future). FutureHolds W S S.place m.0 m.1) (λ m. m.1.filled) (λ m. 0) fs (λ m e. (omega arith, inl (λ l. omega arith))) same

  -- v, which passes a test that fails at frames and at each wait at an object, may be woken
  wakes-by : (v : ℕ) (test : Place → Bool) → ((r d : ℕ) → test (place.Frame (stream_no r) d) ≡ false) → ((x t : ℕ) → test (place.Blocked (spot.Object (object_no x)) t) ≡ false) → v < length W.units → test (S.place v) ≡ true → IsWakeable W S v
  wakes-by v test fails away declared holds = record { declared = declared; frameless = frameless-by S v test fails holds; off_locks = off-by W S v test away holds }

  -- an operation whose own tests hold
  op-keeps : (o : Op) → IsDeclared W o → reached_code W S u o ≡ code.Ok → Keeps W Z S (op_row W S s u o)
  op-keeps (op.KeySet k) d e = keeps-goes_with W Z S s u step (with_key k (S.carried u)) (length-set (S.carried u).keys k (S.carried u).acc) refl refl
  op-keeps op.Yield d e = keeps-wakes_only W Z S s u step (u ∷ []) (may-wake W Z S s u step, tt)
  op-keeps (op.YieldTo v p) d e = keeps-yields_to W Z S s u step v.0 p.0 d.0 (unless-ok (is_in_pool p.0 (S.place v.0)) code.Absent _ tt e).0
  op-keeps op.Suspend d e = keeps-suspends W Z S s u step
  op-keeps op.Exit d e = keeps-exits W Z S s u step
  op-keeps (op.Resume v) d e = keeps-wakes_only W Z S s u step (v.0 ∷ []) (wakes-by v.0 is_suspended (λ r t. refl) (λ x t. refl) d (unless-ok (is_suspended (S.place v.0)) code.UnitState code.Ok tt e).0, tt)
  op-keeps (op.Create v p) d e = keeps-begins W Z S s u step v.0 p.0 (wakes-by v.0 is_unborn (λ r t. refl) (λ x t. refl) d.0 (unless-ok (is_unborn (S.place v.0)) code.Exists _ tt e).0) d.1
  op-keeps (op.Join v) d e = keeps-joins W Z S s u step v.0 (S.place v.0) d refl
  op-keeps (op.Cancel v) d e = keeps-cancels W Z S s u step v.0 (unless-ok (is_alive (S.place v.0)) code.UnitState code.Ok tt e).0
  op-keeps (op.Migrate v p) d e = keeps-migrates W Z S s u step v.0 p.0 (unless-ok (is_alive (S.place v.0)) code.UnitState _ tt e).0 d.1
  op-keeps (op.MigrateTo v r) d e =
      keeps-migrates W Z S s u step v.0 (first_pool W r.0) (unless-ok (is_alive (S.place v.0)) code.UnitState _ tt e).0 (first_pool-declared W r.0 valid d.1)
  op-keeps (op.Revive v p) d e = keeps-begins W Z S s u step v.0 p.0 (wakes-by v.0 is_ended (λ r t. refl) (λ x t. refl) d.0 (unless-ok (is_ended (S.place v.0)) code.UnitState _ tt e).0) d.1
  op-keeps (op.Lock x) d e = keeps-locks W Z S s u step x.0 (S.mutex x.0).owner d refl
  op-keeps (op.Unlock x) d e = keeps-hands_over W Z S s u step x.0 d
  op-keeps (op.Store x) d e = keeps-stores W Z S s u step x.0 (S.carried u).acc (unless-ok (owned_by S u x.0) code.NotOwner code.Ok tt e).0
  op-keeps (op.CondWait x) d e = keeps-releases W Z S s u step x.0 (mutex_of W x.0) d (mutex-declared W x.0 valid d)
  op-keeps (op.Signal x) d e = keeps-passes W Z S s u step (mutex_of W x.0) (S.mutex (mutex_of W x.0)).owner _ (mutex-declared W x.0 valid d) refl (wakeable-first W S (Waiting x.0) tt (condition-no_lock W x.0 d))
  op-keeps (op.Broadcast x) d e = keeps-passes W Z S s u step (mutex_of W x.0) (S.mutex (mutex_of W x.0)).owner _ (mutex-declared W x.0 valid d) refl (wakeable-line W S (Waiting x.0) tt (condition-no_lock W x.0 d))
  op-keeps (op.EvWait x) d e = keeps-awaits_eventual W Z S s u step x.0 d
  op-keeps (op.EvSet x) d e = keeps-sets W Z S s u step x.0 (S.carried u).acc d
  op-keeps (op.FuWait x) d e = keeps-awaits_future W Z S s u step x.0 d
  op-keeps (op.FuSet x) d e =
      keeps-fills W Z S s u step x.0 (filled_by (combine_of W x.0) (S.future x.0) (S.carried u).acc) d (unless-ok (not (is_full W S x.0)) code.FutureFull code.Ok tt e).0 refl
  op-keeps (op.BarWait x) d e = keeps-arrives W Z S s u step x.0 d
  op-keeps (op.ReadLock x) d e = keeps-reads_or_waits W Z S s u step x.0 d
  op-keeps (op.WriteLock x) d e = keeps-writes_or_waits W Z S s u step x.0 d
  op-keeps (op.RwUnlock x) d e = keeps-gives_up W Z S s u step x.0 d (unless-ok (holds u (S.rwlock x.0)) code.NotHolder code.Ok tt e).0
  op-keeps (op.RwStore x) d e = keeps-rw_stores W Z S s u step x.0 d (S.carried u).acc (unless-ok (writes u (S.rwlock x.0)) code.NotHolder code.Ok tt e).0
  -- nobody moves, and such parts alone change
  op-keeps o d e =
      let row : Change = op_row W S s u o in
      keeps-still W Z S s u step row.carried row.desks row.mutexes row.eventuals row.futures
      (record { keys = on.keys; home = on.home; position = on.position }, tt) (all-asked row.desks refl) (all-owned row.mutexes refl) (all-unset row.eventuals refl) (all-empty row.futures refl)

  refused-keeps : (c : Code) → Keeps W Z S (goes_with u (printed (piece.Refused c) (S.carried u)))
  refused-keeps c = keeps-goes_with W Z S s u step (printed (piece.Refused c) (S.carried u)) refl refl refl

  -- an operation, by its code
  row-keeps : (o : Op) (c : Code) → IsDeclared W o → code_of W S s u o ≡ c → Keeps W Z S (step_row W S s u (Some o) c)
  row-keeps o code.Ok d e = op-keeps o d (reached-ok W S s u o e).1
  row-keeps o c d e = refused-keeps c

  -- what there is at a position, by its code
  step_row-keeps : (o : Option Op) (c : Code) → ((p : Op) → o ≡ Some p → IsDeclared W p) → code_at W S s u o ≡ c → Keeps W Z S (step_row W S s u o c)
  step_row-keeps None c declared e = keeps-still W Z S s u step [] [] [] [] [] tt tt tt tt tt
  step_row-keeps (Some o) c declared e = row-keeps o c (declared o refl) e

-- so does a step that may come
pub step-keeps : (W : Parts) (Z : Stored) → IsValid W → OrdersStored W Z.orders → (S : State) (s u k : ℕ) (c : Code) → Sound W Z S → s < W.streams → May W Z S s (what.Step (unit_no u) k c) →
    Keeps W Z S (change W S s (what.Step (unit_no u) k c))
step-keeps W Z valid stored S s u k c sound l may =
    let step : IsStepping W Z S s u = stepping W Z S s u sound l may.0 may.1 in
    step_row-keeps W Z S s u valid step (op_at W u k) c (λ o is. op-declared W u k o valid is) (sym may.3)

-- so does a call, which changes what the operation does that sets the returned number
pub call-keeps : (W : Parts) (Z : Stored) (S : State) (s u k n : ℕ) → Sound W Z S → s < W.streams → May W Z S s (what.Call (unit_no u) k n) → Keeps W Z S (change W S s (what.Call (unit_no u) k n))
call-keeps W Z S s u k n sound l may = keeps-goes_with W Z S s u (stepping W Z S s u sound l may.0 may.1) (with_acc n (S.carried u)) refl refl refl
