-- Every event serves every reader-writer lock from the front of its waiters.
use Rattle.std.proofs.Common.{◌≡◌, ◌≢◌, ◌<◌, ◌-◌, ◌||◌, ℕ, zero, suc, Bool, true, false, List, [], ◌∷◌, ◌++◌, drop, length, map, Option, Some, None, option_map, refl, sym, ◌∙◌, ap, ap₂, subst, append_assoc, ◌⊎◌, inl, inr}
use Rattle.std.specs.Prelude.{◌&&◌, is_none, nat_lt}
use Rattle.std.proofs.lemmas.Bool.{cases_eq, cond-false, cond-true, cond_both}
use Rattle.std.proofs.lemmas.List.{append-nil}
use Rattle.abt_machine.specs.declared.events.Code.{Code}
use Rattle.abt_machine.specs.declared.events.Code.TheVariants as code
use Rattle.abt_machine.specs.declared.events.Event.{Event}
use Rattle.abt_machine.specs.declared.events.Place.{Place}
use Rattle.abt_machine.specs.declared.events.Site.{Site}
use Rattle.abt_machine.specs.declared.events.Site.TheVariants as site
use Rattle.abt_machine.specs.declared.events.What.{What}
use Rattle.abt_machine.specs.declared.events.What.TheVariants as what
use Rattle.abt_machine.specs.declared.events.Wish.TheVariants as wish
use Rattle.abt_machine.specs.declared.numbers.ObjectNo.{ObjectNo}
use Rattle.abt_machine.specs.declared.operations.Op.{Op}
use Rattle.abt_machine.specs.declared.operations.Op.TheVariants as op
use Rattle.abt_machine.specs.Stored.{Stored}
use Rattle.abt_machine.specs.declared.workload.Parts.{Parts}
use Rattle.abt_machine.specs.Access.{may_reach}
use Rattle.abt_machine.specs.Changes.{Change, changed, goes_on, to_tray}
use Rattle.abt_machine.specs.Codes.{code_at, code_of}
use Rattle.abt_machine.specs.EventSites.{op_site, plan_site, what_site}
use Rattle.abt_machine.specs.Events.{After, May, after, change}
use Rattle.abt_machine.specs.Holders.{count_of, given_up, is_free, read_by, with_count, writes, written_by}
use Rattle.abt_machine.specs.Lines.{InTray, Waiting, hand, standing, ticket_in, tray_end}
use Rattle.abt_machine.specs.Maps.{put_all}
use Rattle.abt_machine.specs.Monitors.{number_of}
use Rattle.abt_machine.specs.Numbers.{object_no}
use Rattle.abt_machine.specs.Operations.{IsDeclared, IsRwLock}
use Rattle.abt_machine.specs.Plans.{reached_plan}
use Rattle.abt_machine.specs.Queues.{first}
use Rattle.abt_machine.specs.Rounds.{OrdersStored}
use Rattle.abt_machine.specs.Runs.{RunFrom, last_state, state_after}
use Rattle.abt_machine.specs.RwLocks.{first_readers, left_by, may_read, nobody_waits, passed_on, served, served_by, wanting, woken}
use Rattle.abt_machine.specs.Sound.{IsKept, Sound}
use Rattle.abt_machine.specs.Start.{start}
use Rattle.abt_machine.specs.State.{RwLock, State}
use Rattle.abt_machine.specs.Steps.{gives_up, op_row, reads_or_waits, step_row, waits, writes_or_waits}
use Rattle.abt_machine.specs.Valid.{IsValid}
use Rattle.abt_machine.specs.Values.{Owned, RwLockValue, owned_at, rwlock_value}
use Rattle.abt_machine.specs.Workloads.{op_at}
use Rattle.abt_machine.proofs.Declared.{op-declared}
use Rattle.abt_laws.specs.Footprint.{ChangesOnly, Within, holder}
use Rattle.abt_laws.proofs.Codes.{reached-ok}
use Rattle.abt_laws.proofs.Granted.{woken-each, woken-standing}
use Rattle.abt_laws.proofs.LineMoves.{tray_moves-among, tray_moves-key, tray_moves-places}
use Rattle.abt_laws.proofs.LinesAfter.{NoneTo, line-behind}
use Rattle.abt_laws.proofs.Local.{IsLocal, changes-only}
use Rattle.abt_laws.proofs.LocalEvents.{event-local}
use Rattle.abt_laws.proofs.Maps.{put_at-cases, put_at-same}
use Rattle.abt_laws.proofs.ObjectSites.{rwlock-waits}
use Rattle.abt_laws.proofs.Options.{none≢some}
use Rattle.abt_laws.proofs.Places.{ticket-place}
use Rattle.abt_laws.proofs.Prefixes.{distinct-prefix}
use Rattle.abt_laws.proofs.Pushes.{IsDistinct, queue-distinct}
use Rattle.abt_laws.proofs.Queues.{queue-cong}
use Rattle.abt_laws.proofs.RunParts.{last_state-sound, run-front, run-rest, state_after-append}
use Rattle.abt_laws.proofs.SiteOps.{site-op}
use Rattle.abt_laws.proofs.SoundRuns.{events-keep-sound, runs-are-sound}
use Rattle.abt_laws.proofs.SoundSteps.{IsStepping, stepping}
use Rattle.abt_laws.proofs.Standing.{StandsIn, each-stands}
use Rattle.abt_service.specs.Laws.{WaitsBehind, waiters}
use Rattle.abt_service.specs.Locks.{EventsServeLocks, LeavesFromFront, LockWaitersKeepOrder, ReadersWaitInOrder, UnlocksWakeInOrder, WritersWaitInOrder, WritesInTurn}
use Rattle.abt_service.proofs.Going.{Goes, goes}
use Rattle.abt_service.proofs.Turns.{drop-front}
use Rattle.abt_service.proofs.Waking.{behind, tray-after}

drop-prefix : (us vs : List ℕ) → drop (length us) (us ++ vs) ≡ vs
drop-prefix [] vs = refl
drop-prefix (u ∷ us) vs = drop-prefix us vs

-- another number has another lock
other-lock : (x y : ℕ) → y ≢ x → Some (site.Rw (object_no y)) ≡ Some (site.Rw (object_no x)) → ⊥
other-lock x y apart e = let same : object_no y ≡ object_no x = cc in apart (ap (λ (n : ObjectNo). n.0) same)

-- Who writes.

given-up-writer : (u v : ℕ) (lock : RwLock) → (given_up u lock).writer ≡ Some v → lock.writer ≡ Some v
given-up-writer u v lock =
    cond_both (writes u lock) (record lock { writer = None }) (with_count u (count_of u lock - 1) lock) (λ (k : RwLock). k.writer ≡ Some v → lock.writer ≡ Some v) (λ _ h. absurd (none≢some h)) (λ _ h. h)

served-writer : (v : ℕ) (readers : List Owned) (old : RwLockValue) → (served_by readers old).lock.writer ≡ Some v → (old.lock.writer ≡ Some v) ⊎ (option_map number_of (first old.waiters) ≡ Some v)
served-writer v [] old h = inr h
served-writer v (o ∷ os) old h = inl h

passed-writer : (v : ℕ) (old : RwLockValue) → (passed_on old).lock.writer ≡ Some v → (old.lock.writer ≡ Some v) ⊎ (option_map number_of (first old.waiters) ≡ Some v)
passed-writer v old =
    cond_both (is_free old.lock) (served old) old (λ (k : RwLockValue). k.lock.writer ≡ Some v → (old.lock.writer ≡ Some v) ⊎ (option_map number_of (first old.waiters) ≡ Some v))
    (λ _. served-writer v (first_readers old.lock.wishes old.waiters) old) (λ _ h. inl h)

-- the first, by number
first-number : (S : State) (us : List ℕ) → option_map number_of (first (map (owned_at S) us)) ≡ first us
first-number S [] = refl
first-number S (u ∷ us) = refl

-- Who is woken when unit u gives up lock x.

abbrev leaving : Parts → State → ℕ → ℕ → RwLockValue
leaving W S u x = left_by u (rwlock_value W S x)

abbrev front : Parts → State → ℕ → ℕ → List ℕ
front W S u x = map number_of (woken (leaving W S u x))

abbrev others : Parts → State → ℕ → ℕ → List ℕ
others W S u x = map number_of (passed_on (leaving W S u x)).waiters

-- who is not woken waits on
others-wait : (W : Parts) (S T : State) (s u x : ℕ) → T.place ≡ put_all S.place (to_tray W S s (front W S u x)) → waiters W T x ≡ others W S u x
others-wait W S T s u x places =
    let us : List ℕ = front W S u x in
    let away : NoneTo (Waiting x) (to_tray W S s us) = tray_moves-places (λ pl. ticket_in (Waiting x) pl ≡ None) s (tray_end W S s) us (λ t. refl) in
    ap (λ f. standing W (record T { place = f }) (Waiting x)) places
    ∙ line-behind (length W.units) (Waiting x) S.place (to_tray W S s us) us (others W S u x) away (woken-standing W S x u) (tray_moves-key s (tray_end W S s) us) (tray_moves-among s (tray_end W S s) us)

module _ (W : Parts) (x : ℕ) (is : IsRwLock W x) where
  abbrev Serves : State → State → Type 0
  Serves S T = LeavesFromFront W S T x × WritesInTurn W S T x

  -- nobody comes or leaves
  stay : (S T : State) → waiters W T x ≡ waiters W S x → LeavesFromFront W S T x
  stay S T same = (0, [], same ∙ sym (append-nil (waiters W S x)))

  writes-on : (S T : State) → (T.rwlock x).writer ≡ (S.rwlock x).writer → WritesInTurn W S T x
  writes-on S T same v h = inl (sym same ∙ h)

  untouched : (S T : State) → (waiters W T x ≡ waiters W S x) × (T.rwlock x ≡ S.rwlock x) → Serves S T
  untouched S T same = (stay S T same.0, writes-on S T (ap (λ (k : RwLock). k.writer) same.1))

  -- What happens at another site.

  module _ (S : State) (s : ℕ) (y : Option Site) (apart : y ≡ Some (site.Rw (object_no x)) → ⊥) where
    -- who waits at x is kept elsewhere
    kept-away : (v : ℕ) (pl : Place) (t : ℕ) → ticket_in (Waiting x) pl ≡ Some t → Within s y (holder W v pl) → ⊥
    kept-away v pl t has within = apart (subst (λ p. Within s y (holder W v p)) (ticket-place (Waiting x) pl t has) within ∙ sym (rwlock-waits W (object_no x) is))

    site-stays : (c : Change) → IsLocal W S s y c → (waiters W (changed S c) x ≡ waiters W S x) × ((changed S c).rwlock x ≡ S.rwlock x)
    site-stays c here = (queue-cong _ _ (length W.units) (λ v _. by v (at (put_all S.place c.moves v)) (at (S.place v)) refl refl), only.rwlocks x apart) where
      -- the ticket of a place
      at : Place → Option ℕ
      at = ticket_in (Waiting x)

      only : ChangesOnly W s y S (changed S c)
      only = changes-only W S s y c here

      by : (v : ℕ) (a b : Option ℕ) → at (put_all S.place c.moves v) ≡ a → at (S.place v) ≡ b → at (put_all S.place c.moves v) ≡ at (S.place v)
      by v None None e f = e ∙ sym f
      by v (Some t) b e f = ap (ticket_in (Waiting x)) (only.others v (λ w. kept-away v (put_all S.place c.moves v) t e (only.kept v w))).0
      by v None (Some t) e f = ap (ticket_in (Waiting x)) (only.others v (kept-away v (S.place v) t f)).0

  -- Steps of unit u, in the hand of stream s.

  module _ (Z : Stored) (valid : IsValid W) (S : State) (s u : ℕ) (step : IsStepping W Z S s u) (in_hand : hand W S s ≡ Some u) where
    op-stays : (o : Op) → IsDeclared W o → code_of W S s u o ≡ code.Ok → (plan_site (reached_plan W o (owned_at (start W) u)) ≡ Some (site.Rw (object_no x)) → ⊥) →
        (waiters W (changed S (op_row W S s u o)) x ≡ waiters W S x) × ((changed S (op_row W S s u o)).rwlock x ≡ S.rwlock x)
    op-stays o d ok apart =
        site-stays S s (op_site W s u o) (λ e. apart (sym (ap plan_site (cond-true (may_reach W s o) _ _ (reached-ok W S s u o ok).0)) ∙ e)) (op_row W S s u o) (site-op W valid S s u in_hand o d ok).0

    abbrev old : RwLockValue
    old = rwlock_value W S x

    -- u waits at x, and lock x is this with the same writer
    waits-serve : (k : RwLock) → k.writer ≡ (S.rwlock x).writer → Serves S (changed S (record (waits S u x) { rwlocks = (x, k) ∷ [] }))
    waits-serve k same = (
      (0, u ∷ [], behind W Z S s u step x (changed S (waits S u x)) refl),
      writes-on S (changed S (record (waits S u x) { rwlocks = (x, k) ∷ [] })) (ap (λ (l : RwLock). l.writer) (put_at-same S.rwlock x k) ∙ same),
    )

    reads-serve : Serves S (changed S (reads_or_waits S u x old))
    reads-serve =
        cond_both (may_read u old) (record (goes_on S u) { rwlocks = (x, read_by u old.lock) ∷ [] }) (record (waits S u x) { rwlocks = (x, wanting u wish.Read old.lock) ∷ [] }) (λ c. Serves S (changed S c))
        (λ _. (
          stay S (changed S (record (goes_on S u) { rwlocks = (x, read_by u old.lock) ∷ [] })) refl,
          writes-on S (changed S (record (goes_on S u) { rwlocks = (x, read_by u old.lock) ∷ [] })) (ap (λ (l : RwLock). l.writer) (put_at-same S.rwlock x (read_by u old.lock))),
        ))
        (λ _. waits-serve (wanting u wish.Read old.lock) refl)

    writes-serve : Serves S (changed S (writes_or_waits S u x old))
    writes-serve =
        let kept : IsKept (S.rwlock x) (standing W S (Waiting x)) = step.sound.locks x is in
        cond_both (is_free old.lock) (record (goes_on S u) { rwlocks = (x, written_by u old.lock) ∷ [] }) (record (waits S u x) { rwlocks = (x, wanting u wish.Write old.lock) ∷ [] }) (λ c. Serves S (changed S c))
        (λ free. (stay S (changed S (record (goes_on S u) { rwlocks = (x, written_by u old.lock) ∷ [] })) refl, λ v h. inr (inr (kept.served free))))
        (λ _. waits-serve (wanting u wish.Write old.lock) refl)

    gives-up-serve : Serves S (changed S (gives_up W S s u x (leaving W S u x)))
    gives-up-serve =
        let T : State = changed S (gives_up W S s u x (leaving W S u x)) in
        let us : List ℕ = front W S u x in (
          (length us, [], others-wait W S T s u x refl ∙ (sym (ap (drop (length us)) (woken-standing W S x u) ∙ drop-prefix us (others W S u x)) ∙ sym (append-nil (drop (length us) (waiters W S x))))),
          λ v h. elim (passed-writer v (leaving W S u x) (sym (ap (λ (l : RwLock). l.writer) (put_at-same S.rwlock x (passed_on (leaving W S u x)).lock)) ∙ h)) [
            | inl on ↦ inl (given-up-writer u v (S.rwlock x) on)
            | inr next ↦ inr (inl (sym (first-number S (waiters W S x)) ∙ next))
          ],
        )

    -- by whether it is of x
    serves-or : (c : Change) (y : ℕ) → (y ≡ x → Serves S (changed S c)) → (y ≢ x → (waiters W (changed S c) x ≡ waiters W S x) × ((changed S c).rwlock x ≡ S.rwlock x)) → Serves S (changed S c)
    serves-or c y here away = elim (cases_eq y x) [ inl e ↦ here e | inr ne ↦ untouched S (changed S c) (away ne) ]

    op-serves : (o : Op) → IsDeclared W o → code_of W S s u o ≡ code.Ok → Serves S (changed S (op_row W S s u o))
    op-serves (op.ReadLock y) d ok =
        serves-or (op_row W S s u (op.ReadLock y)) y.0 (λ e. subst (λ n. Serves S (changed S (reads_or_waits S u n (rwlock_value W S n)))) (sym e) reads-serve) (λ ne. op-stays (op.ReadLock y) d ok (other-lock x y.0 ne))
    op-serves (op.WriteLock y) d ok =
        serves-or (op_row W S s u (op.WriteLock y)) y.0 (λ e. subst (λ n. Serves S (changed S (writes_or_waits S u n (rwlock_value W S n)))) (sym e) writes-serve) (λ ne. op-stays (op.WriteLock y) d ok (other-lock x y.0 ne))
    op-serves (op.RwUnlock y) d ok =
        serves-or (op_row W S s u (op.RwUnlock y)) y.0 (λ e. subst (λ n. Serves S (changed S (gives_up W S s u n (left_by u (rwlock_value W S n))))) (sym e) gives-up-serve)
        (λ ne. op-stays (op.RwUnlock y) d ok (other-lock x y.0 ne))
    op-serves (op.RwLoad y) d ok = untouched S (changed S (op_row W S s u (op.RwLoad y))) (refl, refl)
    op-serves (op.RwStore y) d ok =
        let T : State = changed S (op_row W S s u (op.RwStore y)) in
        let k : RwLock = record (S.rwlock y.0) { number = (S.carried u).acc } in (
          stay S T refl,
          writes-on S T (elim (put_at-cases S.rwlock y.0 k x) [
            | inl same ↦ ap (λ (l : RwLock). l.writer) same.1 ∙ ap (λ n. (S.rwlock n).writer) (sym same.0)
            | inr other ↦ ap (λ (l : RwLock). l.writer) other.1
          ]),
        )
    -- it is at another site
    op-serves o d ok = untouched S (changed S (op_row W S s u o)) (op-stays o d ok (λ e. cc))

    -- what there is at a position, by its code
    step-serves : (o : Option Op) (c : Code) → ((a : Op) → o ≡ Some a → IsDeclared W a) → code_at W S s u o ≡ c → Serves S (changed S (step_row W S s u o c))
    step-serves None c declared e = untouched S S (refl, refl)
    step-serves (Some o) code.Ok declared e = op-serves o (declared o refl) e
    step-serves (Some o) c declared e = untouched S (changed S (step_row W S s u (Some o) c)) (refl, refl)

  -- each event
  event-serves : (Z : Stored) → IsValid W → (S : State) (s : ℕ) (w : What) → Sound W Z S → s < W.streams → May W Z S s w → Serves S (after W S s w)
  event-serves Z valid S s (what.Step u k c) sound below may =
      step-serves Z valid S s u.0 (stepping W Z S s u.0 sound below may.0 may.1) may.1 (op_at W u.0 k) c (λ o e. op-declared W u.0 k o valid e) (sym may.3)
  event-serves Z valid S s w sound below may = untouched S (after W S s w) (site-stays S s (what_site W s w) (λ e. cc) (change W S s w) (event-local W valid Z S s w may))

pub events-serve-locks : (W : Parts) (Z : Stored) → EventsServeLocks W Z
events-serve-locks W Z valid stored S T e x is sound came = subst (λ (U : State). Serves W x is S U) (sym came.2) (event-serves W x is Z valid S e.stream.0 e.what sound came.0 came.1)

-- Along a run.

abbrev nobody : List ℕ
nobody = []

drop-nobody : (m : ℕ) → drop m nobody ≡ nobody
drop-nobody zero = refl
drop-nobody (suc m) = refl

-- some, and then some more
drop-twice : (m n : ℕ) (us : List ℕ) → (k : ℕ) × (drop m (drop n us) ≡ drop k us)
drop-twice m zero us = (m, refl)
drop-twice m (suc n) [] = (suc n, drop-nobody m)
drop-twice m (suc n) (u ∷ us) = let more : (k : ℕ) × (drop m (drop n us) ≡ drop k us) = drop-twice m n us in (suc more.0, more.1)

leaves-twice : (W : Parts) (S T U : State) (x : ℕ) → LeavesFromFront W S T x → LeavesFromFront W T U x → LeavesFromFront W S U x
leaves-twice W S T U x one two =
    let more : (ws : List ℕ) × (drop two.0 (drop one.0 (waiters W S x) ++ one.1) ≡ drop two.0 (drop one.0 (waiters W S x)) ++ ws) = drop-front two.0 (drop one.0 (waiters W S x)) one.1 in
    let both : (k : ℕ) × (drop two.0 (drop one.0 (waiters W S x)) ≡ drop k (waiters W S x)) = drop-twice two.0 one.0 (waiters W S x) in (
      both.0,
      more.0 ++ two.1,
      two.2
          ∙ (ap (λ us. drop two.0 us ++ two.1) one.2
          ∙ (ap (λ us. us ++ two.1) (more.1 ∙ ap (λ us. us ++ more.0) both.1) ∙ append_assoc (drop both.0 (waiters W S x)) more.0 two.1)),
    )

leaves-from : (W : Parts) (Z : Stored) → IsValid W → OrdersStored W Z.orders → (x : ℕ) → IsRwLock W x → (S : State) (es : List Event) → Sound W Z S → RunFrom W Z S es → LeavesFromFront W S (state_after W S es) x
leaves-from W Z valid stored x is S [] sound run = (0, [], sym (append-nil (waiters W S x)))
leaves-from W Z valid stored x is S (e ∷ es) sound run =
    let T : State = after W S e.stream.0 e.what in
    let came : After W Z S e T = (run.0, run.1, refl) in
    leaves-twice W S T (state_after W T es) x (events-serve-locks W Z valid stored S T e x is sound came).0
    (leaves-from W Z valid stored x is T es (events-keep-sound W Z valid stored S T e sound came) run.2)

pub lock-waiters-keep-order : (W : Parts) (Z : Stored) → LockWaitersKeepOrder W Z
lock-waiters-keep-order W Z valid stored J K x is run =
    let S : State = last_state W J in
    let sound : Sound W Z S = last_state-sound W Z J (runs-are-sound W Z) valid stored (run-front W Z (start W) J K run) in
    subst (λ (T : State). LeavesFromFront W S T x) (sym (state_after-append W (start W) J K)) (leaves-from W Z valid stored x is S K sound (run-rest W Z (start W) J K run))

-- Single operations.

pub unlocks-wake-in-order : (W : Parts) (Z : Stored) → UnlocksWakeInOrder W Z
unlocks-wake-in-order W Z valid stored S T e u x does =
    let is : Goes W Z S T e.stream.0 u (op.RwUnlock (object_no x)) = goes W Z valid S T e u (op.RwUnlock (object_no x)) does in
    let us : List ℕ = front W S u x in
    let places : T.place ≡ put_all S.place (to_tray W S e.stream.0 us) = ap (λ (V : State). V.place) is.becomes in
    let apart : IsDistinct us = distinct-prefix us (others W S u x) (subst IsDistinct (woken-standing W S x u) (queue-distinct (λ v. ticket_in (Waiting x) (S.place v)) (length W.units))) in
    let tray : standing W T (InTray e.stream.0) ≡ us = tray-after W Z S e.stream.0 u is.step x us apart (woken-each (StandsIn W S (Waiting x)) W S x u (each-stands W S (Waiting x))) T places in
    woken-standing W S x u ∙ ap₂ (λ (vs ws : List ℕ). vs ++ ws) (sym tray) (sym (others-wait W S T e.stream.0 u x places))

some-waits : (S : State) (us : List ℕ) → us ≢ [] → nobody_waits (map (owned_at S) us) ≡ false
some-waits S [] some = absurd (some refl)
some-waits S (u ∷ us) some = refl

neither : (b : Bool) → (false || (b && false)) ≡ false
neither true = refl
neither false = refl

-- u comes to wait at x, behind the others, whatever becomes of the lock
behind-by : (W : Parts) (Z : Stored) (S T : State) (s u x : ℕ) → IsStepping W Z S s u → T.place ≡ put_all S.place (waits S u x).moves → WaitsBehind W S T u x
behind-by W Z S T s u x step places = ap (λ f. standing W (record T { place = f }) (Waiting x)) places ∙ behind W Z S s u step x (changed S (waits S u x)) refl

pub readers-wait-in-order : (W : Parts) (Z : Stored) → ReadersWaitInOrder W Z
readers-wait-in-order W Z valid stored S T e u x does none some =
    let is : Goes W Z S T e.stream.0 u (op.ReadLock (object_no x)) = goes W Z valid S T e u (op.ReadLock (object_no x)) does in
    let old : RwLockValue = rwlock_value W S x in
    let must : may_read u old ≡ false =
    ap₂ (λ (a b : Bool). a || (is_none old.lock.writer && b)) (ap (nat_lt 0) none) (some-waits S (waiters W S x) some) ∙ neither (is_none old.lock.writer) in
    behind-by W Z S T e.stream.0 u x is.step
    (ap (λ (V : State). V.place) is.becomes
    ∙ ap (λ (c : Change). put_all S.place c.moves)
    (cond-false (may_read u old) (record (goes_on S u) { rwlocks = (x, read_by u old.lock) ∷ [] }) (record (waits S u x) { rwlocks = (x, wanting u wish.Read old.lock) ∷ [] }) must))

pub writers-wait-in-order : (W : Parts) (Z : Stored) → WritersWaitInOrder W Z
writers-wait-in-order W Z valid stored S T e u x does some =
    let is : Goes W Z S T e.stream.0 u (op.WriteLock (object_no x)) = goes W Z valid S T e u (op.WriteLock (object_no x)) does in
    let old : RwLockValue = rwlock_value W S x in
    let kept : IsKept (S.rwlock x) (standing W S (Waiting x)) = is.step.sound.locks x is.declared in
    behind-by W Z S T e.stream.0 u x is.step
    (ap (λ (V : State). V.place) is.becomes
    ∙ cond_both (is_free old.lock) (record (goes_on S u) { rwlocks = (x, written_by u old.lock) ∷ [] }) (record (waits S u x) { rwlocks = (x, wanting u wish.Write old.lock) ∷ [] })
    (λ (c : Change). put_all S.place c.moves ≡ put_all S.place (waits S u x).moves) (λ free. absurd (some (kept.served free))) (λ _. refl))
