-- The rows of operations on mutexes. Unit u, in the hand of stream s, makes the step.
use Rattle.std.proofs.Common.{◌≡◌, ◌≢◌, ℕ, suc, is_none, is_some, true, false, List, [], ◌∷◌, map, Option, Some, None, refl, sym, ◌∙◌, ap}
use Rattle.abt_machine.specs.declared.events.Code.TheVariants as code
use Rattle.abt_machine.specs.declared.events.Site.TheVariants as site
use Rattle.abt_machine.specs.declared.numbers.ObjectNo.{ObjectNo}
use Rattle.abt_machine.specs.declared.operations.Op.{Op}
use Rattle.abt_machine.specs.declared.operations.Op.TheVariants as op
use Rattle.abt_machine.specs.Stored.{Stored}
use Rattle.abt_machine.specs.declared.workload.Parts.{Parts}
use Rattle.abt_machine.specs.Operations.{IsMutex}
use Rattle.abt_machine.specs.Queues.{first, first_alone}
use Rattle.abt_machine.specs.State.{State, Mutex}
use Rattle.abt_machine.specs.Carrying.{advanced}
use Rattle.abt_machine.specs.Lines.{Waiting, standing}
use Rattle.abt_machine.specs.Codes.{unless, owned_by, code_of}
use Rattle.abt_machine.specs.Changes.{Change, no_change, to_tray}
use Rattle.abt_machine.specs.Steps.{op_row, set_owner, waits, locks, hands_over}
use Rattle.abt_machine.specs.Values.{Owned, owned_at, MonitorIs, MonitorValue, monitor_value, part_of}
use Rattle.abt_machine.specs.Acts.{moved, received}
use Rattle.abt_machine.specs.Acts as act
use Rattle.abt_machine.specs.Plans.{refusal, keeps, empties}
use Rattle.abt_machine.specs.Turns.{stepped}
use Rattle.abt_machine.specs.Monitors.{MonitorGives, handed_over}
use Rattle.abt_laws.proofs.Maps.{put_at-same}
use Rattle.abt_laws.proofs.Places.{place_in}
use Rattle.abt_simulation.proofs.Acting.{IsActing}
use Rattle.abt_simulation.proofs.OwnParts.{hand-elsewhere, hand-only, away-first, standing-distinct, distinct-first}
use Rattle.abt_simulation.proofs.Shapes.{none-to_tray, wakes-part, line-first_woken}
use Rattle.abt_simulation.proofs.Rows.{ValueRow, ValueDone, mutex-at, refuses}
use Rattle.abt_simulation.proofs.ObjectShapes.{unless-true, unless-false, is-some_of, not-some_of, none-test, some-test, goes-through, carries-on, gets-number, waits-part, waits-line}
use Rattle.abt_simulation.proofs.MonitorShapes.{first-number, first-woken, none-woken, waits-elsewhere, conditions-stay, first-from, holding-value}

module _ (W : Parts) (Z : Stored) (S : State) (s u : ℕ) (acts : IsActing W Z S s u) (x : ObjectNo) (is : IsMutex W x.0) where
  abbrev pub value : State → MonitorValue
  value T = monitor_value W T x.0

  -- The unit gets the mutex.

  -- the mutex is its own
  gets : (a : Op) (b : Owned) (new : MonitorValue) → code_of W S s u a ≡ code.Ok → b ≡ moved (owned_at S u) → new ≡ record (value S) { owner = Some u } →
      (locks S u x.0 None ≡ op_row W S s u a) → ValueDone W S s u a value (keeps b []) new
  gets a b new ok same is-new row =
      carries-on W Z S s u acts a value b new (advanced (S.carried u)) (record no_change { mutexes = (x.0, set_owner (Some u) (S.mutex x.0)) ∷ [] }) same ok (sym row)
      (holding-value W Z S s u acts x.0 is (advanced (S.carried u)) (set_owner (Some u) (S.mutex x.0)) ∙ sym is-new)

  pub lock : ValueRow W S s u (op.Lock x) value MonitorGives
  lock (act.Given b) new gives = by (S.mutex x.0).owner refl gives.0 where
    by : (o : Option ℕ) → (S.mutex x.0).owner ≡ o → is_some o ≡ false → ValueDone W S s u (op.Lock x) value (keeps b []) new
    by None e none = gets _ b new refl gives.1 gives.2 (ap (locks S u x.0) (sym e))
    by (Some v) e none = absurd cc
  lock act.Rested new gives = by (S.mutex x.0).owner refl gives.0 where
    by : (o : Option ℕ) → (S.mutex x.0).owner ≡ o → is_some o ≡ true → ValueDone W S s u (op.Lock x) value (empties []) new
    by None e some = absurd cc
    by (Some v) e some =
        goes-through W Z S s u acts _ value (empties []) new (waits S u x.0) refl refl (ap (locks S u x.0) e)
        (waits-part W Z S s u acts x.0)
        ((λ i. record (value S) {
          waiters = waits-line W Z S s u acts x.0 i;
          conds = conditions-stay W Z S s u acts x.0 is ((u, place_in (Waiting x.0) (S.object_next x.0)) ∷ []) (advanced (S.carried u)) (record no_change { object_next = (x.0, suc (S.object_next x.0)) ∷ [] })
              (λ y ne. ((waits-elsewhere y x.0 (S.object_next x.0) ne, tt), (hand-only W Z S s u acts (Waiting y) (hand-elsewhere s (Waiting y) tt), tt))) i;
        }) ∙ sym gives.1)
  lock _ new gives = absurd gives

  pub trylock : ValueRow W S s u (op.TryLock x) value MonitorGives
  trylock (act.Coded code.Ok) new gives =
      gets _ (moved (owned_at S u)) new (unless-true (is_none (S.mutex x.0).owner) code.MutexLocked code.Ok (none-test (S.mutex x.0).owner gives.0)) refl gives.1 refl
  trylock (act.Coded code.MutexLocked) new gives =
      refuses W Z S s u acts _ code.MutexLocked (site.Monitor x) MonitorIs value MonitorGives new (mutex-at W x.0 is) tt
      (sym (unless-false (is_none (S.mutex x.0).owner) code.MutexLocked code.Ok (some-test (S.mutex x.0).owner gives.0))) gives.1
  trylock _ new gives = absurd gives

  -- The unit has the mutex, or is refused.

  own-mutex : (S.mutex x.0).owner ≡ Some u → unless (owned_by S u x.0) code.NotOwner code.Ok ≡ code.Ok
  own-mutex e = unless-true (owned_by S u x.0) code.NotOwner code.Ok (is-some_of u (S.mutex x.0).owner e)

  not-own : (a : Op) (new : MonitorValue) → code_of W S s u a ≡ unless (owned_by S u x.0) code.NotOwner code.Ok → (S.mutex x.0).owner ≢ Some u → new ≡ value S → ValueDone W S s u a value (refusal (owned_at S u) code.NotOwner) new
  not-own a new codes ne same =
      refuses W Z S s u acts a code.NotOwner (site.Monitor x) MonitorIs value MonitorGives new (mutex-at W x.0 is) tt
      (sym (codes ∙ unless-false (owned_by S u x.0) code.NotOwner code.Ok (not-some_of u (S.mutex x.0).owner ne))) same

  -- it goes on with the mutex handed over, and these are woken
  hands : (woken : List Owned) (new : MonitorValue) → (S.mutex x.0).owner ≡ Some u → map (owned_at S) (first_alone (standing W S (Waiting x.0))) ≡ woken → new ≡ handed_over (value S) →
      ValueDone W S s u (op.Unlock x) value (keeps (moved (owned_at S u)) woken) new
  hands woken new own first-is same =
      let c : Change = record no_change { mutexes = (x.0, set_owner (first (standing W S (Waiting x.0))) (S.mutex x.0)) ∷ [] } in
      goes-through W Z S s u acts _ value (keeps (moved (owned_at S u)) woken) new (hands_over W S s u x.0) refl (own-mutex own) refl
      (wakes-part W Z S s u acts (first_alone (standing W S (Waiting x.0))) (advanced (S.carried u)) c (distinct-first (standing W S (Waiting x.0)) (standing-distinct W S (Waiting x.0))) (away-first W S s (Waiting x.0) tt)
      ∙ ap (λ os. stepped (part_of W S s) (keeps (moved (owned_at S u)) os)) first-is)
      ((λ i. record {
        owner = (ap (λ (k : Mutex). k.owner) (put_at-same S.mutex x.0 (set_owner (first (standing W S (Waiting x.0))) (S.mutex x.0))) ∙ first-number S (standing W S (Waiting x.0))) i;
        number = ap (λ (k : Mutex). k.number) (put_at-same S.mutex x.0 (set_owner (first (standing W S (Waiting x.0))) (S.mutex x.0))) i;
        waiters = line-first_woken W Z S s u acts (Waiting x.0) tt [] (advanced (S.carried u)) c tt tt i;
        conds = conditions-stay W Z S s u acts x.0 is (to_tray W S s (first_alone (standing W S (Waiting x.0)))) (advanced (S.carried u)) c
            (λ y ne. (none-to_tray W S s (Waiting y) (first_alone (standing W S (Waiting x.0))) tt, first-from W Z S s u acts x.0 is y ne)) i;
      }) ∙ sym same)

  pub unlock : ValueRow W S s u (op.Unlock x) value MonitorGives
  unlock (act.Given b) new gives = hands (b ∷ []) new gives.0 (first-woken S (standing W S (Waiting x.0)) b gives.1) gives.2
  unlock act.Rested new gives = hands [] new gives.0 (none-woken S (standing W S (Waiting x.0)) gives.1) gives.2
  unlock (act.Coded code.NotOwner) new gives = not-own _ new refl gives.0 gives.1
  unlock _ new gives = absurd gives

  pub load : ValueRow W S s u (op.Load x) value MonitorGives
  load (act.Number n) new gives =
      gets-number W Z S s u acts _ _ _ value _ _ new (S.mutex x.0).number (mutex-at W x.0 is) (ap (λ k. received k (moved (owned_at S u))) gives.1) (own-mutex gives.0) refl gives.2
  load (act.Coded code.NotOwner) new gives = not-own _ new refl gives.0 gives.1
  load _ new gives = absurd gives

  pub store : ValueRow W S s u (op.Store x) value MonitorGives
  store (act.Coded code.Ok) new gives =
      let m : Mutex = record (S.mutex x.0) { number = (S.carried u).acc } in
      carries-on W Z S s u acts _ value _ new (advanced (S.carried u)) (record no_change { mutexes = (x.0, m) ∷ [] }) refl (own-mutex gives.0) refl (holding-value W Z S s u acts x.0 is (advanced (S.carried u)) m ∙ sym gives.1)
  store (act.Coded code.NotOwner) new gives = not-own _ new refl gives.0 gives.1
  store _ new gives = absurd gives
