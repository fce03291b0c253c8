-- The rows of operations on conditions. Unit u, in the hand of stream s, makes the step.
use Rattle.std.proofs.Common.{◌≡◌, ◌≢◌, ℕ, suc, ◌+◌, List, [], ◌∷◌, ◌++◌, length, map, slice_get, set, Option, Some, None, refl, sym, ◌∙◌, ap, ap₂, subst, append_assoc}
use Rattle.std.proofs.lemmas.List.{append-nil}
use Rattle.abt_machine.specs.declared.events.Code.TheVariants as code
use Rattle.abt_machine.specs.declared.operations.Op.{Op}
use Rattle.abt_machine.specs.Stored.{Stored}
use Rattle.abt_machine.specs.declared.operations.Thing.TheVariants as thing
use Rattle.abt_machine.specs.declared.workload.Parts.{Parts}
use Rattle.abt_machine.specs.Numbers.{object_no}
use Rattle.abt_machine.specs.Workloads.{thing_at, mutex_of, mutex_from, condition_number, IsCondition}
use Rattle.abt_machine.specs.Operations.{IsMutex}
use Rattle.abt_machine.specs.Queues.{first, first_alone}
use Rattle.abt_machine.specs.State.{State, Mutex}
use Rattle.abt_machine.specs.Carrying.{advanced}
use Rattle.abt_machine.specs.Lines.{Waiting, ticket_in, standing}
use Rattle.abt_machine.specs.Maps.{put_at}
use Rattle.abt_machine.specs.Codes.{code_of, unless, owned_by}
use Rattle.abt_machine.specs.Changes.{Change, no_change, changed, to_tray, waiting_moves}
use Rattle.abt_machine.specs.Steps.{op_row, set_owner, releases, queues, passes}
use Rattle.abt_machine.specs.Values.{Owned, owned_at, MonitorValue, monitor_value, waiters_at, conditions_of, part_of, MonitorIs}
use Rattle.abt_machine.specs.Acts.{moved}
use Rattle.abt_machine.specs.Plans.{keeps, empties, notes}
use Rattle.abt_machine.specs.Turns.{stepped}
use Rattle.abt_machine.specs.Monitors.{rest, list_from, at_condition, with_condition, admitted_by, all_admitted, new_owner, after_wait, MonitorGives, after_signal, after_broadcast}
use Rattle.abt_machine.specs.Valid.{IsValid}
use Rattle.abt_machine.specs.Sites.{monitor_of}
use Rattle.abt_machine.specs.declared.numbers.ObjectNo.{ObjectNo}
use Rattle.abt_machine.specs.declared.operations.Op.TheVariants as op
use Rattle.abt_machine.specs.Acts as act
use Rattle.abt_machine.proofs.Declared.{mutex-declared}
use Rattle.abt_laws.proofs.Lists.{EachOf, EachOf-then, EachOf-first_alone}
use Rattle.abt_laws.proofs.Maps.{put_at-same}
use Rattle.abt_laws.proofs.Options.{none≢some}
use Rattle.abt_laws.proofs.Places.{place_in, same-self}
use Rattle.abt_laws.proofs.SoundSteps.{waiting-below}
use Rattle.abt_laws.proofs.Standing.{StandsIn, each-stands}
use Rattle.abt_simulation.proofs.Acting.{IsActing}
use Rattle.abt_simulation.proofs.OwnParts.{IsOff, off-object, hand-elsewhere, hand-only, away-first, away-other, standing-distinct, distinct-first, moving}
use Rattle.abt_simulation.proofs.Shapes.{none-to_tray, others, first-and-others, owned-others, blocks-part, line-joined, line-first_woken, line-same}
use Rattle.abt_simulation.proofs.Conditions.{conditions-declared}
use Rattle.abt_simulation.proofs.ConditionLists.{conditions-distinct, get-map, map-changed, condition-at}
use Rattle.abt_simulation.proofs.Rows.{ValueDone, ValueRow, mutex-at, refuses}
use Rattle.abt_simulation.proofs.ObjectShapes.{goes-through, unless-true, unless-false, is-some_of, not-some_of}
use Rattle.abt_simulation.proofs.MonitorShapes.{first-number, first-woken, none-woken, waits-elsewhere, condition-apart, first-from}
use Rattle.abt_simulation.proofs.Passes.{passing, passing-part, passing-left, passing-arrived, passing-others}

-- Units that are admitted to a mutex, in order.

-- one that is held
all-queued : (v : ℕ) (os : List Owned) (m : MonitorValue) → m.owner ≡ Some v → all_admitted os m ≡ record m { waiters = m.waiters ++ os }
all-queued v [] m held = λ i. record m { waiters = sym (append-nil m.waiters) i }
all-queued v (o ∷ os) m held =
    ap (all_admitted os) (ap (λ w. admitted_by w o m) held)
    ∙ (all-queued v os (record m { waiters = m.waiters ++ o ∷ [] }) held ∙ (λ i. record m { waiters = append_assoc m.waiters (o ∷ []) os i }))

-- one that is free
first-admitted : (o : Owned) (os : List Owned) (m : MonitorValue) → m.owner ≡ None → all_admitted (o ∷ os) m ≡ record m { owner = Some o.number; waiters = m.waiters ++ os }
first-admitted o os m free = ap (all_admitted os) (ap (λ w. admitted_by w o m) free) ∙ all-queued o.number os (record m { owner = Some o.number }) refl

-- The first of some units, with what they carry.

first-alone-owned : (S : State) (us : List ℕ) → first_alone (map (owned_at S) us) ≡ map (owned_at S) (first_alone us)
first-alone-owned S [] = refl
first-alone-owned S (u ∷ us) = refl

-- whom a stream wakes of those that go to a mutex
abbrev woken_by : Option ℕ → List ℕ → List ℕ
woken_by None us = first_alone us
woken_by (Some v) us = []

-- what a stream hears of those that go to a mutex

module _ (W : Parts) (S : State) (x : ℕ) where
  given : (o : Option ℕ) (b : Owned) (vs : List ℕ) → first_alone vs ≡ first_alone (standing W S (Waiting x)) → new_owner o (waiters_at W S x) ≡ Some b → map (owned_at S) (woken_by o vs) ≡ b ∷ []
  given None b vs one e = ap (map (owned_at S)) one ∙ first-woken S (standing W S (Waiting x)) b e
  given (Some v) b vs one e = absurd (none≢some e)

  rested : (o : Option ℕ) (vs : List ℕ) → first_alone vs ≡ first_alone (standing W S (Waiting x)) → new_owner o (waiters_at W S x) ≡ None → map (owned_at S) (woken_by o vs) ≡ []
  rested None vs one e = ap (map (owned_at S)) one ∙ none-woken S (standing W S (Waiting x)) e
  rested (Some v) vs one e = refl

-- The unit waits at condition x, whose mutex is m and whose number there is k.
module _ (W : Parts) (Z : Stored) (S : State) (s u : ℕ) (acts : IsActing W Z S s u) (x m k : ℕ) (cond : thing_at W x ≡ Some (thing.Cond (object_no m))) (is : IsMutex W m)
    (at : slice_get (conditions_of W m) k ≡ Some x) where
  abbrev pub value : State → MonitorValue
  value T = monitor_value W T m

  apart : x ≢ m
  apart = condition-apart W m x is cond

  -- who waits at the condition
  waiters-are : at_condition k (value S) ≡ waiters_at W S x
  waiters-are = ap list_from (get-map (waiters_at W S) (conditions_of W m) k x at)

  -- if all other conditions stay
  one-changed : (T : State) → ((y : ℕ) → y ≢ m → y ≢ x → waiters_at W T y ≡ waiters_at W S y) → (os : List Owned) → waiters_at W T x ≡ os → map (waiters_at W T) (conditions_of W m) ≡ set (value S).conds k os
  one-changed T same os here =
      map-changed (waiters_at W T) (waiters_at W S) k x (conditions_of W m) (conditions-distinct W m) at
      (EachOf-then (λ y. thing_at W y ≡ Some (thing.Cond (object_no m))) (λ y. y ≢ x → waiters_at W T y ≡ waiters_at W S y) (conditions_of W m) (λ y c ne. same y (condition-apart W m y is c) ne) (conditions-declared W m))
      ∙ ap (set (value S).conds k) here

  -- A wait.

  abbrev rest_of : Change
  rest_of = record no_change { mutexes = (m, set_owner (first (standing W S (Waiting m))) (S.mutex m)) ∷ []; object_next = (x, suc (S.object_next x)) ∷ [] }

  woken-elsewhere : EachOf (λ v. (v ≢ u) × (ticket_in (Waiting x) (S.place v) ≡ None)) (first_alone (standing W S (Waiting m)))
  woken-elsewhere =
      EachOf-first_alone (λ v. (v ≢ u) × (ticket_in (Waiting x) (S.place v) ≡ None)) (standing W S (Waiting m))
      (EachOf-then (StandsIn W S (Waiting m)) (λ v. (v ≢ u) × (ticket_in (Waiting x) (S.place v) ≡ None)) (standing W S (Waiting m))
      (λ v h. (away-other W Z S s u acts v (subst (IsOff s) (sym h.at) (off-object s (Waiting m) h.ticket tt)), ap (ticket_in (Waiting x)) h.at ∙ waits-elsewhere x m h.ticket apart))
      (each-stands W S (Waiting m)))

  released-here : waiters_at W (changed S (releases W S s u x m)) x ≡ waiters_at W S x ++ moved (owned_at S u) ∷ []
  released-here = line-joined W Z S s u acts (Waiting x) tt (S.object_next x) (first_alone (standing W S (Waiting m))) (advanced (S.carried u)) rest_of (same-self x) (waiting-below W Z S x acts.sound) woken-elsewhere

  released-mutex : waiters_at W (changed S (releases W S s u x m)) m ≡ rest (waiters_at W S m)
  released-mutex =
      line-first_woken W Z S s u acts (Waiting m) tt ((u, place_in (Waiting x) (S.object_next x)) ∷ []) (advanced (S.carried u)) rest_of
      (waits-elsewhere m x (S.object_next x) (λ e. apart (sym e)), tt) (hand-only W Z S s u acts (Waiting m) (hand-elsewhere s (Waiting m) tt), tt)

  released-others : (y : ℕ) → y ≢ m → y ≢ x → waiters_at W (changed S (releases W S s u x m)) y ≡ waiters_at W S y
  released-others y off other =
      line-same W Z S s u acts (Waiting y) tt ((u, place_in (Waiting x) (S.object_next x)) ∷ to_tray W S s (first_alone (standing W S (Waiting m)))) (advanced (S.carried u)) rest_of
      (waits-elsewhere y x (S.object_next x) other, none-to_tray W S s (Waiting y) (first_alone (standing W S (Waiting m))) tt)
      (hand-only W Z S s u acts (Waiting y) (hand-elsewhere s (Waiting y) tt), first-from W Z S s u acts m is y off)

  waits : (a : Op) (os : List Owned) (new : MonitorValue) → code_of W S s u a ≡ code.Ok → op_row W S s u a ≡ releases W S s u x m → map (owned_at S) (first_alone (standing W S (Waiting m))) ≡ os →
      new ≡ after_wait k (moved (owned_at S u)) (value S) → ValueDone W S s u a value (empties os) new
  waits a os new ok row first-is same =
      let mutex : put_at S.mutex m (set_owner (first (standing W S (Waiting m))) (S.mutex m)) m ≡ set_owner (first (standing W S (Waiting m))) (S.mutex m) = put_at-same S.mutex m (set_owner (first (standing W S (Waiting m))) (S.mutex m)) in
      goes-through W Z S s u acts a value (empties os) new (releases W S s u x m) refl ok row
      (blocks-part W Z S s u acts (place_in (Waiting x) (S.object_next x)) (first_alone (standing W S (Waiting m))) (advanced (S.carried u)) rest_of (off-object s (Waiting x) (S.object_next x) tt)
      (distinct-first (standing W S (Waiting m)) (standing-distinct W S (Waiting m))) (away-first W S s (Waiting m) tt)
      ∙ ap (λ us. stepped (part_of W S s) (empties us)) first-is)
      ((λ i. record {
        owner = (ap (λ (q : Mutex). q.owner) mutex ∙ first-number S (standing W S (Waiting m))) i;
        number = ap (λ (q : Mutex). q.number) mutex i;
        waiters = released-mutex i;
        conds = one-changed (changed S (releases W S s u x m)) released-others (at_condition k (value S) ++ moved (owned_at S u) ∷ []) (released-here ∙ ap (λ us. us ++ moved (owned_at S u) ∷ []) (sym waiters-are)) i;
      }) ∙ sym same)

  -- A signal or a broadcast: of those that wait at the condition, these go to the mutex and the others stay.

  module _ (a : Op) (vs left : List ℕ) (split : standing W S (Waiting x) ≡ vs ++ left) (ok : code_of W S s u a ≡ code.Ok) (row : op_row W S s u a ≡ passes W S s u m (S.mutex m).owner vs) where
    -- these are woken, and those wait at the mutex
    some : (us ws : List ℕ) (c : Change) (mutex : Mutex) (new : MonitorValue) → vs ≡ us ++ ws → op_row W S s u a ≡ moving (waiting_moves m (S.object_next m) ws ++ to_tray W S s us) ((u, advanced (S.carried u)) ∷ []) c →
        (changed S c).mutex m ≡ mutex → new ≡ record (with_condition k (map (owned_at S) left) (value S)) { owner = mutex.owner; number = mutex.number; waiters = waiters_at W S m ++ map (owned_at S) ws } →
        ValueDone W S s u a value (keeps (moved (owned_at S u)) (map (owned_at S) us)) new
    some us ws c mutex new two goes held same =
        let parts : standing W S (Waiting x) ≡ us ++ (ws ++ left) = split ∙ (ap (λ ns. ns ++ left) two ∙ append_assoc us ws left) in
        let d : Change = passing W Z S s u acts x m apart us ws left parts c in
        goes-through W Z S s u acts a value (keeps (moved (owned_at S u)) (map (owned_at S) us)) new (passing W Z S s u acts x m apart us ws left parts c) refl ok goes
        (passing-part W Z S s u acts x m apart us ws left parts c)
        ((λ i. record {
          owner = (held i).owner;
          number = (held i).number;
          waiters = passing-arrived W Z S s u acts x m apart us ws left parts c i;
          conds = one-changed (changed S d) (passing-others W Z S s u acts x m apart us ws left parts c) (map (owned_at S) left) (passing-left W Z S s u acts x m apart us ws left parts c) i;
        }) ∙ sym same)

    -- nobody goes
    nobody : with_condition k (map (owned_at S) left) (value S) ≡ record (with_condition k (map (owned_at S) left) (value S)) { owner = (S.mutex m).owner; number = (S.mutex m).number; waiters = waiters_at W S m ++ [] }
    nobody = λ i. record (with_condition k (map (owned_at S) left) (value S)) { waiters = sym (append-nil (waiters_at W S m)) i }

    goes : (o : Option ℕ) (ns : List ℕ) (new : MonitorValue) → (S.mutex m).owner ≡ o → vs ≡ ns → new ≡ all_admitted (map (owned_at S) ns) (with_condition k (map (owned_at S) left) (value S)) →
        ValueDone W S s u a value (keeps (moved (owned_at S u)) (map (owned_at S) (woken_by o ns))) new
    goes None [] new free are same = some [] [] no_change (S.mutex m) new are (row ∙ ap₂ (passes W S s u m) free are) refl (same ∙ nobody)
    goes (Some v) [] new held are same = some [] [] no_change (S.mutex m) new are (row ∙ ap₂ (passes W S s u m) held are) refl (same ∙ nobody)
    goes (Some v) (w ∷ ws) new held are same =
        some [] (w ∷ ws) (record no_change { object_next = (m, S.object_next m + length (w ∷ ws)) ∷ [] }) (S.mutex m) new are
        (row ∙ (ap₂ (passes W S s u m) held are ∙ (λ i. record (queues S u m (w ∷ ws)) { moves = sym (append-nil (waiting_moves m (S.object_next m) (w ∷ ws))) i })))
        refl (same ∙ all-queued v (map (owned_at S) (w ∷ ws)) (with_condition k (map (owned_at S) left) (value S)) held)
    goes None (w ∷ ws) new free are same =
        some (w ∷ []) ws (record no_change { object_next = (m, S.object_next m + length ws) ∷ []; mutexes = (m, set_owner (Some w) (S.mutex m)) ∷ [] }) (set_owner (Some w) (S.mutex m)) new are
        (row ∙ ap₂ (passes W S s u m) free are)
        (put_at-same S.mutex m (set_owner (Some w) (S.mutex m))) (same ∙ first-admitted (owned_at S w) (map (owned_at S) ws) (with_condition k (map (owned_at S) left) (value S)) free)

    -- what the stream hears of it
    heard : (os : List Owned) (new : MonitorValue) → map (owned_at S) (woken_by (S.mutex m).owner vs) ≡ os → new ≡ all_admitted (map (owned_at S) vs) (with_condition k (map (owned_at S) left) (value S)) →
        ValueDone W S s u a value (keeps (moved (owned_at S u)) os) new
    heard os new are same = subst (λ us. ValueDone W S s u a value (keeps (moved (owned_at S u)) us) new) are (goes (S.mutex m).owner vs new refl refl same)

first-of-first : (us : List ℕ) → first_alone (first_alone us) ≡ first_alone us
first-of-first [] = refl
first-of-first (u ∷ us) = refl

module _ (W : Parts) (Z : Stored) (S : State) (s u : ℕ) (acts : IsActing W Z S s u) (valid : IsValid W) (x : ObjectNo) (is : IsCondition W x.0) where
  pub mutex : IsMutex W (mutex_of W x.0)
  mutex = mutex-declared W x.0 valid is

  declared : thing_at W x.0 ≡ Some (thing.Cond (object_no (mutex_of W x.0)))
  declared = is.1 ∙ ap (λ m. Some (thing.Cond (object_no m))) (sym (ap (mutex_from x.0) is.1))

  abbrev pub monitor : State → MonitorValue
  monitor T = monitor_value W T (mutex_of W x.0)

  own-mutex : (S.mutex (mutex_of W x.0)).owner ≡ Some u → unless (owned_by S u (mutex_of W x.0)) code.NotOwner code.Ok ≡ code.Ok
  own-mutex e = unless-true (owned_by S u (mutex_of W x.0)) code.NotOwner code.Ok (is-some_of u (S.mutex (mutex_of W x.0)).owner e)

  pub condwait : ValueRow W S s u (op.CondWait x) monitor MonitorGives
  condwait (act.Given b) new gives =
      waits W Z S s u acts x.0 (mutex_of W x.0) (condition_number W x.0) declared mutex (condition-at W x.0 is) _ (b ∷ []) new (own-mutex gives.0) refl (first-woken S (standing W S (Waiting (mutex_of W x.0))) b gives.1) gives.2
  condwait act.Rested new gives =
      waits W Z S s u acts x.0 (mutex_of W x.0) (condition_number W x.0) declared mutex (condition-at W x.0 is) _ [] new (own-mutex gives.0) refl (none-woken S (standing W S (Waiting (mutex_of W x.0))) gives.1) gives.2
  condwait (act.Back b code.NotOwner) new gives =
      subst (λ o. ValueDone W S s u (op.CondWait x) monitor (notes o code.NotOwner) new) (sym gives.1)
      (refuses W Z S s u acts _ code.NotOwner (monitor_of W x.0) MonitorIs monitor MonitorGives new (mutex-at W (mutex_of W x.0) mutex) tt
      (sym (unless-false (owned_by S u (mutex_of W x.0)) code.NotOwner code.Ok (not-some_of u (S.mutex (mutex_of W x.0)).owner gives.0))) gives.2)
  condwait _ new gives = absurd gives

  -- who waits at the condition
  here : at_condition (condition_number W x.0) (monitor S) ≡ waiters_at W S x.0
  here = waiters-are W Z S s u acts x.0 (mutex_of W x.0) (condition_number W x.0) declared mutex (condition-at W x.0 is)

  given-by : (o : Option ℕ) (b : Owned) (vs : List ℕ) → first_alone vs ≡ first_alone (standing W S (Waiting x.0)) → new_owner o (at_condition (condition_number W x.0) (monitor S)) ≡ Some b → map (owned_at S) (woken_by o vs) ≡ b ∷ []
  given-by o b vs one e = given W S x.0 o b vs one (ap (new_owner o) (sym here) ∙ e)

  rested-by : (o : Option ℕ) (vs : List ℕ) → first_alone vs ≡ first_alone (standing W S (Waiting x.0)) → new_owner o (at_condition (condition_number W x.0) (monitor S)) ≡ None → map (owned_at S) (woken_by o vs) ≡ []
  rested-by o vs one e = rested W S x.0 o vs one (ap (new_owner o) (sym here) ∙ e)

  -- the monitor afterwards, by who stands at the condition
  signal-is : after_signal (condition_number W x.0) (monitor S)
      ≡ all_admitted (map (owned_at S) (first_alone (standing W S (Waiting x.0)))) (with_condition (condition_number W x.0) (map (owned_at S) (others (standing W S (Waiting x.0)))) (monitor S))
  signal-is =
      ap (λ os. all_admitted (first_alone os) (with_condition (condition_number W x.0) (rest os) (monitor S))) here
      ∙ (λ i. all_admitted (first-alone-owned S (standing W S (Waiting x.0)) i) (with_condition (condition_number W x.0) (sym (owned-others S (standing W S (Waiting x.0))) i) (monitor S)))

  broadcast-is : after_broadcast (condition_number W x.0) (monitor S) ≡ all_admitted (map (owned_at S) (standing W S (Waiting x.0))) (with_condition (condition_number W x.0) [] (monitor S))
  broadcast-is = ap (λ os. all_admitted os (with_condition (condition_number W x.0) [] (monitor S))) here

  signals : (os : List Owned) (new : MonitorValue) → map (owned_at S) (woken_by (S.mutex (mutex_of W x.0)).owner (first_alone (standing W S (Waiting x.0)))) ≡ os → new ≡ after_signal (condition_number W x.0) (monitor S) →
      ValueDone W S s u (op.Signal x) monitor (keeps (moved (owned_at S u)) os) new
  signals os new woken same =
      heard W Z S s u acts x.0 (mutex_of W x.0) (condition_number W x.0) declared mutex (condition-at W x.0 is) _ (first_alone (standing W S (Waiting x.0))) (others (standing W S (Waiting x.0))) (first-and-others (standing W S (Waiting x.0))) refl refl
      os new woken (same ∙ signal-is)

  pub signal : ValueRow W S s u (op.Signal x) monitor MonitorGives
  signal (act.Given b) new gives = signals (b ∷ []) new (given-by (S.mutex (mutex_of W x.0)).owner b (first_alone (standing W S (Waiting x.0))) (first-of-first (standing W S (Waiting x.0))) gives.0) gives.1
  signal act.Rested new gives = signals [] new (rested-by (S.mutex (mutex_of W x.0)).owner (first_alone (standing W S (Waiting x.0))) (first-of-first (standing W S (Waiting x.0))) gives.0) gives.1
  signal _ new gives = absurd gives

  broadcasts : (os : List Owned) (new : MonitorValue) → map (owned_at S) (woken_by (S.mutex (mutex_of W x.0)).owner (standing W S (Waiting x.0))) ≡ os → new ≡ after_broadcast (condition_number W x.0) (monitor S) →
      ValueDone W S s u (op.Broadcast x) monitor (keeps (moved (owned_at S u)) os) new
  broadcasts os new woken same =
      heard W Z S s u acts x.0 (mutex_of W x.0) (condition_number W x.0) declared mutex (condition-at W x.0 is) _ (standing W S (Waiting x.0)) [] (sym (append-nil (standing W S (Waiting x.0)))) refl refl
      os new woken (same ∙ broadcast-is)

  pub broadcast : ValueRow W S s u (op.Broadcast x) monitor MonitorGives
  broadcast (act.Given b) new gives = broadcasts (b ∷ []) new (given-by (S.mutex (mutex_of W x.0)).owner b (standing W S (Waiting x.0)) refl gives.0) gives.1
  broadcast act.Rested new gives = broadcasts [] new (rested-by (S.mutex (mutex_of W x.0)).owner (standing W S (Waiting x.0)) refl gives.0) gives.1
  broadcast _ new gives = absurd gives
