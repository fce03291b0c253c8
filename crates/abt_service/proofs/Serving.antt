-- Every event serves every mutex in the order of its waiters.
use Rattle.std.proofs.Common.{◌≡◌, ◌≢◌, ◌==◌, ◌<◌, ℕ, suc, true, false, List, [], ◌∷◌, ◌++◌, drop, length, Option, Some, None, refl, sym, ◌∙◌, ap, subst, inl, inr}
use Rattle.std.specs.Prelude.{is_none}
use Rattle.std.proofs.lemmas.Bool.{cases_eq, cond-true, eq-eqb, ne_eqb}
use Rattle.std.proofs.lemmas.List.{append-nil}
use Rattle.abt_machine.specs.declared.events.Code.{Code}
use Rattle.abt_machine.specs.declared.events.Code.TheVariants as code
use Rattle.abt_machine.specs.declared.events.Place.{Place}
use Rattle.abt_machine.specs.declared.events.Site.{Site}
use Rattle.abt_machine.specs.declared.events.Site.TheVariants as site
use Rattle.abt_machine.specs.declared.events.What.{What}
use Rattle.abt_machine.specs.declared.events.What.TheVariants as what
use Rattle.abt_machine.specs.declared.numbers.ObjectNo.{ObjectNo}
use Rattle.abt_machine.specs.declared.operations.Op.{Op}
use Rattle.abt_machine.specs.declared.operations.Op.TheVariants as op
use Rattle.abt_machine.specs.declared.operations.Thing.TheVariants as thing
use Rattle.abt_machine.specs.Stored.{Stored}
use Rattle.abt_machine.specs.declared.workload.Parts.{Parts}
use Rattle.abt_machine.specs.Access.{may_reach}
use Rattle.abt_machine.specs.Changes.{Change, changed, to_tray, waiting_moves}
use Rattle.abt_machine.specs.Codes.{code_at, code_of}
use Rattle.abt_machine.specs.EventSites.{op_site, plan_site, what_site}
use Rattle.abt_machine.specs.Events.{May, after, change}
use Rattle.abt_machine.specs.Lines.{Waiting, hand, ticket_in, tray_end}
use Rattle.abt_machine.specs.Maps.{put_all, put_at}
use Rattle.abt_machine.specs.Numbers.{object_no}
use Rattle.abt_machine.specs.Operations.{IsDeclared, IsMutex}
use Rattle.abt_machine.specs.Plans.{reached_plan}
use Rattle.abt_machine.specs.Queues.{first, first_alone}
use Rattle.abt_machine.specs.Sound.{Sound}
use Rattle.abt_machine.specs.Start.{start}
use Rattle.abt_machine.specs.State.{Mutex, State}
use Rattle.abt_machine.specs.Steps as machine
use Rattle.abt_machine.specs.Steps.{locks, op_row, passes, set_owner, step_row}
use Rattle.abt_machine.specs.Valid.{IsValid}
use Rattle.abt_machine.specs.Values.{owned_at}
use Rattle.abt_machine.specs.Workloads.{IsCondition, mutex_of, op_at, thing_at}
use Rattle.abt_machine.proofs.Declared.{op-declared}
use Rattle.abt_laws.specs.Footprint.{ChangesOnly, Within, holder}
use Rattle.abt_laws.proofs.Codes.{reached-ok, unless-ok}
use Rattle.abt_laws.proofs.LineMoves.{line_moves-waiting, tray_moves-among, tray_moves-key, tray_moves-places}
use Rattle.abt_laws.proofs.LinesAfter.{NoneTo, line_at, line-behind, line-gets_all, line-stays, put_all-append}
use Rattle.abt_laws.proofs.Lists.{Among, EachOf, EachOf-first_alone}
use Rattle.abt_laws.proofs.Local.{IsLocal, changes-only}
use Rattle.abt_laws.proofs.LocalEvents.{event-local}
use Rattle.abt_laws.proofs.Locks.{elsewhere}
use Rattle.abt_laws.proofs.Maps.{KeyOf, put_all-other, put_at-cases, put_at-same}
use Rattle.abt_laws.proofs.ObjectSites.{mutex-waits}
use Rattle.abt_laws.proofs.Options.{none≢some}
use Rattle.abt_laws.proofs.Places.{place_in, same-self, ticket-place}
use Rattle.abt_laws.proofs.Pushes.{EachOf-among, IsDistinct, queue-distinct}
use Rattle.abt_laws.proofs.Queues.{queue-cong}
use Rattle.abt_laws.proofs.SiteOps.{site-op}
use Rattle.abt_laws.proofs.SoundSteps.{IsStepping, stepping, waiting-below}
use Rattle.abt_laws.proofs.Standing.{StandsIn, each-stands}
use Rattle.abt_service.specs.Laws.{EventsServe, ServesMutex, hands_over, hands_over_by, releases, waiters}
use Rattle.abt_service.proofs.Handing.{first-rest, one-distinct, others-wait}
use Rattle.abt_service.proofs.Waking.{behind}

-- the numbers of a list of moves to a line are those that move
moved-among : (x i : ℕ) (us : List ℕ) (v : ℕ) → KeyOf v (waiting_moves x i us) → Among v us
moved-among x i [] v k = absurd k
moved-among x i (u ∷ us) v k = elim k [ inl e ↦ inl e | inr b ↦ inr (moved-among x (suc i) us v b) ]

-- another number has another monitor
other-monitor : (x y : ℕ) → y ≢ x → Some (site.Monitor (object_no y)) ≡ Some (site.Monitor (object_no x)) → ⊥
other-monitor x y apart e = let same : object_no y ≡ object_no x = cc in apart (ap (λ (n : ObjectNo). n.0) same)

-- a condition is no mutex
condition-apart : (W : Parts) (x y : ℕ) → IsMutex W x → IsCondition W y → y ≢ x
condition-apart W x y is cond e = let k : Some (thing.Cond cond.0) ≡ Some thing.Mutex = sym cond.1 ∙ (ap (thing_at W) e ∙ is) in cc

module _ (W : Parts) (x : ℕ) (is : IsMutex W x) where
  -- who owns x owns it on
  abbrev OwnerStays : State → State → Type 0
  OwnerStays S T = (v : ℕ) → (S.mutex x).owner ≡ Some v → (T.mutex x).owner ≡ Some v

  -- nobody comes or leaves
  stays : (S T : State) → waiters W T x ≡ waiters W S x → OwnerStays S T → ServesMutex W S T x false
  stays S T same owner = (([], same ∙ sym (append-nil (waiters W S x))), owner)

  -- nobody comes or leaves, and x stays as it is
  abbrev IsUntouched : State → State → Type 0
  IsUntouched S T = (waiters W T x ≡ waiters W S x) × (T.mutex x ≡ S.mutex x)

  untouched : (S T : State) → IsUntouched S T → ServesMutex W S T x false
  untouched S T same = stays S T same.0 (λ v owned. ap (λ (m : Mutex). m.owner) same.1 ∙ owned)

  -- What happens at another site.

  module _ (S : State) (s : ℕ) (y : Option Site) (apart : y ≡ Some (site.Monitor (object_no x)) → ⊥) where
    -- who waits at x is kept elsewhere
    kept-away : (v : ℕ) (pl : Place) (t : ℕ) → ticket_in (Waiting x) pl ≡ Some t → Within s y (holder W v pl) → ⊥
    kept-away v pl t has within = apart (subst (λ p. Within s y (holder W v p)) (ticket-place (Waiting x) pl t has) within ∙ sym (mutex-waits W (object_no x) is))

    -- so nobody comes or leaves, and x stays
    site-stays : (c : Change) → IsLocal W S s y c → IsUntouched S (changed S c)
    site-stays c here = (queue-cong _ _ (length W.units) (λ v _. by v (at (put_all S.place c.moves v)) (at (S.place v)) refl refl), only.mutexes x apart) where
      -- the ticket of a place
      at : Place → Option ℕ
      at = ticket_in (Waiting x)

      only : ChangesOnly W s y S (changed S c)
      only = changes-only W S s y c here

      by : (v : ℕ) (a b : Option ℕ) → at (put_all S.place c.moves v) ≡ a → at (S.place v) ≡ b → at (put_all S.place c.moves v) ≡ at (S.place v)
      by v None None e f = e ∙ sym f
      by v (Some t) b e f = ap (ticket_in (Waiting x)) (only.others v (λ w. kept-away v (put_all S.place c.moves v) t e (only.kept v w))).0
      by v None (Some t) e f = ap (ticket_in (Waiting x)) (only.others v (kept-away v (S.place v) t f)).0

  -- Steps of unit u, in the hand of stream s.

  module _ (Z : Stored) (valid : IsValid W) (S : State) (s u : ℕ) (step : IsStepping W Z S s u) (in_hand : hand W S s ≡ Some u) where
    -- an operation at another site
    op-stays : (o : Op) → IsDeclared W o → code_of W S s u o ≡ code.Ok →
        (plan_site (reached_plan W o (owned_at (start W) u)) ≡ Some (site.Monitor (object_no x)) → ⊥) → IsUntouched S (changed S (op_row W S s u o))
    op-stays o d ok apart =
        site-stays S s (op_site W s u o) (λ e. apart (sym (ap plan_site (cond-true (may_reach W s o) _ _ (reached-ok W S s u o ok).0)) ∙ e)) (op_row W S s u o) (site-op W valid S s u in_hand o d ok).0

    -- u locks x
    locks-serve : (o : Option ℕ) → (S.mutex x).owner ≡ o → ServesMutex W S (changed S (locks S u x o)) x false
    locks-serve None free = stays S (changed S (locks S u x None)) refl (λ v owned. absurd (none≢some (sym free ∙ owned)))
    locks-serve (Some v) held = ((u ∷ [], behind W Z S s u step x (changed S (locks S u x (Some v))) refl), λ w owned. owned)

    -- mutex y becomes m, which has the owner that y had
    owner-put : (y : ℕ) (m : Mutex) → ((v : ℕ) → (S.mutex y).owner ≡ Some v → m.owner ≡ Some v) → (v : ℕ) → (S.mutex x).owner ≡ Some v → (put_at S.mutex y m x).owner ≡ Some v
    owner-put y m keeps v owned = elim (put_at-cases S.mutex y m x) [
      | inl same ↦ ap (λ (k : Mutex). k.owner) same.1 ∙ keeps v (ap (λ n. (S.mutex n).owner) (sym same.0) ∙ owned)
      | inr other ↦ ap (λ (k : Mutex). k.owner) other.1 ∙ owned
    ]

    -- a free mutex has no owner
    none-owns : (o : Option ℕ) (v : ℕ) → is_none o ≡ true → o ≡ Some v → ⊥
    none-owns None v free owned = none≢some owned
    none-owns (Some w) v free owned = cc

    -- u waits at condition y, and x is handed over
    releases-serve : (y : ℕ) → IsCondition W y → ServesMutex W S (changed S (machine.releases W S s u y x)) x true
    releases-serve y cond =
        let pl : Place = place_in (Waiting y) (S.object_next y) in
        let us : List ℕ = first_alone (waiters W S x) in
        let away : NoneTo (Waiting x) (to_tray W S s us) = tray_moves-places (λ p. ticket_in (Waiting x) p ≡ None) s (tray_end W S s) us (λ t. refl) in
        let other : x ≢ y = λ e. condition-apart W x y is cond (sym e) in
        let still : line_at (length W.units) (Waiting x) (put_at S.place u pl) ≡ waiters W S x =
        line-stays (length W.units) (Waiting x) S.place ((u, pl) ∷ []) (elsewhere y x (S.object_next y) other, tt) (ap (ticket_in (Waiting x)) step.in_hand, tt) in (
          ap (λ (m : Mutex). m.owner) (put_at-same S.mutex x (set_owner (first (waiters W S x)) (S.mutex x))),
          line-behind (length W.units) (Waiting x) (put_at S.place u pl) (to_tray W S s us) us (drop 1 (waiters W S x)) away (still ∙ first-rest (waiters W S x))
              (tray_moves-key s (tray_end W S s) us) (tray_moves-among s (tray_end W S s) us),
        )

    -- x is handed over
    hands-serve : ServesMutex W S (changed S (machine.hands_over W S s u x)) x true
    hands-serve = (ap (λ (m : Mutex). m.owner) (put_at-same S.mutex x (set_owner (first (waiters W S x)) (S.mutex x))), others-wait W S (changed S (machine.hands_over W S s u x)) s x refl)

    -- These units, which wait at condition y, come to x.

    module _ (y : ℕ) (cond : IsCondition W y) where
      comes-new : (v : ℕ) → StandsIn W S (Waiting y) v → (v < length W.units) × (ticket_in (Waiting x) (S.place v) ≡ None)
      comes-new v stands = (stands.declared, ap (ticket_in (Waiting x)) stands.at ∙ elsewhere y x stands.ticket (λ e. condition-apart W x y is cond (sym e)))

      come-behind : (vs : List ℕ) → IsDistinct vs → EachOf (StandsIn W S (Waiting y)) vs →
          line_at (length W.units) (Waiting x) (put_all S.place (waiting_moves x (S.object_next x) vs)) ≡ waiters W S x ++ vs
      come-behind vs apart each =
          let new : (v : ℕ) → Among v vs → (v < length W.units) × (ticket_in (Waiting x) (S.place v) ≡ None) = λ v m. comes-new v (EachOf-among (StandsIn W S (Waiting y)) vs v each m) in
          ap (λ ms. line_at (length W.units) (Waiting x) (put_all S.place ms)) (line_moves-waiting x (S.object_next x) vs)
          ∙ line-gets_all (length W.units) (Waiting x) (same-self x) vs (S.object_next x) S.place apart new (waiting-below W Z S x step.sound)

      passes-serve : (o : Option ℕ) (vs : List ℕ) → (S.mutex x).owner ≡ o → IsDistinct vs → EachOf (StandsIn W S (Waiting y)) vs → ServesMutex W S (changed S (passes W S s u x o vs)) x false
      passes-serve o [] is_owner apart each = untouched S (changed S (passes W S s u x o [])) (refl, refl)
      passes-serve (Some v) (w ∷ ws) held apart each = ((w ∷ ws, come-behind (w ∷ ws) apart each), λ n owned. owned)
      passes-serve None (w ∷ ws) free apart each =
          let t : ℕ = S.object_next x in
          let ms : List (ℕ × Place) = waiting_moves x t ws in
          let f : ℕ → Place = put_all S.place ms in
          let kept : ticket_in (Waiting x) (f w) ≡ None = ap (ticket_in (Waiting x)) (put_all-other S.place ms w (λ k. apart.0 (moved-among x t ws w k))) ∙ (comes-new w each.0).1 in
          let still : line_at (length W.units) (Waiting x) (put_all f (to_tray W S s (w ∷ []))) ≡ line_at (length W.units) (Waiting x) f =
          line-stays (length W.units) (Waiting x) f (to_tray W S s (w ∷ [])) (refl, tt) (kept, tt) in (
            (ws, ap (line_at (length W.units) (Waiting x)) (put_all-append S.place ms (to_tray W S s (w ∷ []))) ∙ (still ∙ come-behind ws apart.1 each.1)),
            λ v owned. absurd (none≢some (sym free ∙ owned)),
          )

      -- by a signal or a broadcast, whose change has the number of the mutex in it
      signals-serve : (m : ℕ) (vs : List ℕ) → m ≡ x → IsDistinct vs → EachOf (StandsIn W S (Waiting y)) vs → ServesMutex W S (changed S (passes W S s u m (S.mutex m).owner vs)) x false
      signals-serve m vs e apart each = subst (λ n. ServesMutex W S (changed S (passes W S s u n (S.mutex n).owner vs)) x false) (sym e) (passes-serve (S.mutex x).owner vs refl apart each)

    -- Each operation that goes through.

    -- by whether it is of x
    serves-if : (c : Change) (y : ℕ) → (y ≡ x → ServesMutex W S (changed S c) x true) → (y ≢ x → IsUntouched S (changed S c)) → ServesMutex W S (changed S c) x (y == x)
    serves-if c y here away = elim (cases_eq y x) [
      | inl e ↦ subst (ServesMutex W S (changed S c) x) (sym (eq-eqb y x e)) (here e)
      | inr ne ↦ subst (ServesMutex W S (changed S c) x) (sym (ne_eqb y x ne)) (untouched S (changed S c) (away ne))
    ]

    stays-or : (c : Change) (y : ℕ) → (y ≡ x → ServesMutex W S (changed S c) x false) → (y ≢ x → IsUntouched S (changed S c)) → ServesMutex W S (changed S c) x false
    stays-or c y here away = elim (cases_eq y x) [ inl e ↦ here e | inr ne ↦ untouched S (changed S c) (away ne) ]

    op-serves : (o : Op) → IsDeclared W o → code_of W S s u o ≡ code.Ok → ServesMutex W S (changed S (op_row W S s u o)) x (releases W x o)
    op-serves (op.Lock y) d ok =
        stays-or (op_row W S s u (op.Lock y)) y.0 (λ e. subst (λ n. ServesMutex W S (changed S (locks S u n (S.mutex n).owner)) x false) (sym e) (locks-serve (S.mutex x).owner refl))
        (λ ne. op-stays (op.Lock y) d ok (other-monitor x y.0 ne))
    op-serves (op.TryLock y) d ok =
        let free : is_none (S.mutex y.0).owner ≡ true = (unless-ok (is_none (S.mutex y.0).owner) code.MutexLocked code.Ok tt (reached-ok W S s u (op.TryLock y) ok).1).0 in
        stays S (changed S (op_row W S s u (op.TryLock y))) refl (owner-put y.0 (set_owner (Some u) (S.mutex y.0)) (λ v owned. absurd (none-owns (S.mutex y.0).owner v free owned)))
    op-serves (op.Unlock y) d ok =
        serves-if (op_row W S s u (op.Unlock y)) y.0
        (λ e. subst (λ n. ServesMutex W S (changed S (machine.hands_over W S s u n)) x true) (sym e) hands-serve)
        (λ ne. op-stays (op.Unlock y) d ok (other-monitor x y.0 ne))
    op-serves (op.Load y) d ok = untouched S (changed S (op_row W S s u (op.Load y))) (refl, refl)
    op-serves (op.Store y) d ok = stays S (changed S (op_row W S s u (op.Store y))) refl (owner-put y.0 (record (S.mutex y.0) { number = (S.carried u).acc }) (λ v owned. owned))
    op-serves (op.CondWait y) d ok =
        serves-if (op_row W S s u (op.CondWait y)) (mutex_of W y.0) (λ e. subst (λ n. ServesMutex W S (changed S (machine.releases W S s u y.0 n)) x true) (sym e) (releases-serve y.0 d))
        (λ ne. op-stays (op.CondWait y) d ok (other-monitor x (mutex_of W y.0) ne))
    op-serves (op.Signal y) d ok =
        stays-or (op_row W S s u (op.Signal y)) (mutex_of W y.0)
        (λ e. signals-serve y.0 d (mutex_of W y.0) (first_alone (waiters W S y.0)) e (one-distinct (waiters W S y.0))
        (EachOf-first_alone (StandsIn W S (Waiting y.0)) (waiters W S y.0) (each-stands W S (Waiting y.0))))
        (λ ne. op-stays (op.Signal y) d ok (other-monitor x (mutex_of W y.0) ne))
    op-serves (op.Broadcast y) d ok =
        stays-or (op_row W S s u (op.Broadcast y)) (mutex_of W y.0)
        (λ e. signals-serve y.0 d (mutex_of W y.0) (waiters W S y.0) e (queue-distinct (λ v. ticket_in (Waiting y.0) (S.place v)) (length W.units)) (each-stands W S (Waiting y.0)))
        (λ ne. op-stays (op.Broadcast y) d ok (other-monitor x (mutex_of W y.0) ne))
    -- it is at another site
    op-serves o d ok = untouched S (changed S (op_row W S s u o)) (op-stays o d ok (λ e. cc))

    -- what there is at a position, by its code
    step-serves : (o : Option Op) (c : Code) → ((p : Op) → o ≡ Some p → IsDeclared W p) → code_at W S s u o ≡ c → ServesMutex W S (changed S (step_row W S s u o c)) x (hands_over_by W x o c)
    step-serves None c declared e = untouched S S (refl, refl)
    step-serves (Some o) code.Ok declared e = op-serves o (declared o refl) e
    step-serves (Some o) c declared e = untouched S (changed S (step_row W S s u (Some o) c)) (refl, refl)

  -- each event
  event-serves : (Z : Stored) → IsValid W → (S : State) (s : ℕ) (w : What) → Sound W Z S → s < W.streams → May W Z S s w → ServesMutex W S (after W S s w) x (hands_over W x w)
  event-serves Z valid S s (what.Step u k c) sound below may =
      step-serves Z valid S s u.0 (stepping W Z S s u.0 sound below may.0 may.1) may.1 (op_at W u.0 k) c (λ o e. op-declared W u.0 k o valid e) (sym may.3)
  event-serves Z valid S s w sound below may = untouched S (after W S s w) (site-stays S s (what_site W s w) (λ e. cc) (change W S s w) (event-local W valid Z S s w may))

pub events-serve : (W : Parts) (Z : Stored) → EventsServe W Z
events-serve W Z valid stored S T e x is sound came =
    subst (λ (U : State). ServesMutex W S U x (hands_over W x e.what)) (sym came.2) (event-serves W x is Z valid S e.stream.0 e.what sound came.0 came.1)
