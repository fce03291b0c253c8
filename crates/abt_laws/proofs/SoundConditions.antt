-- Steps at a condition keep a sound state sound. Unit u, in the hand of stream s, makes the step.
use Rattle.std.proofs.Common.{◌≡◌, ℕ, suc, ◌+◌, ◌<◌, ◌≤◌, List, [], ◌∷◌, ◌++◌, length, Option, Some, None, refl, sym, ◌∙◌, ap, subst, arith, inl}
use Rattle.std.specs.Prelude.{IsSome}
use Rattle.abt_machine.specs.declared.events.Place.{Place}
use Rattle.abt_machine.specs.declared.events.Place.TheVariants as place
use Rattle.abt_machine.specs.declared.events.Spot.TheVariants as spot
use Rattle.abt_machine.specs.Stored.{Stored}
use Rattle.abt_machine.specs.declared.operations.Thing.TheVariants as thing
use Rattle.abt_machine.specs.declared.workload.Parts.{Parts}
use Rattle.abt_machine.specs.Numbers.{object_no}
use Rattle.abt_machine.specs.Maps.{put_at, put_all}
use Rattle.abt_machine.specs.Workloads.{thing_at, IsCondition}
use Rattle.abt_machine.specs.State.{State, Mutex}
use Rattle.abt_machine.specs.Queues.{first, first_alone}
use Rattle.abt_machine.specs.Lines.{InTray, Waiting, standing, tray_end}
use Rattle.abt_machine.specs.Operations.{IsMutex}
use Rattle.abt_machine.specs.Changes.{Change, changed, to_tray, waiting_moves}
use Rattle.abt_machine.specs.Steps.{set_owner, releases, queues, passes}
use Rattle.abt_machine.specs.Sound.{HoldsUp}
use Rattle.abt_laws.proofs.LineMoves.{waiting_moves-each, waiting_moves-places, tray_moves-places}
use Rattle.abt_laws.proofs.Maps.{put_at-same}
use Rattle.abt_laws.proofs.Lists.{EachOf, EachOf-append}
use Rattle.abt_laws.proofs.Places.{line_of, same-self}
use Rattle.abt_laws.proofs.Arrivals.{IsEmpty, IsBelow-move, IsBelow-moves, AllFree-append, free-above, tray-free, waiting-free}
use Rattle.abt_laws.proofs.Standing.{none-first}
use Rattle.abt_laws.proofs.SoundChanges.{Keeps, places, MovesWell}
use Rattle.abt_laws.proofs.Barriers.{IsOffBarriers}
use Rattle.abt_laws.proofs.SoundFrames.{IsFrameless}
use Rattle.abt_laws.proofs.Locks.{MovesOffLocks}
use Rattle.abt_laws.proofs.Wakes.{IsWakeable, wakeable-first, tray-well, tray-frameless, tray-off, empty-still}
use Rattle.abt_laws.proofs.SoundMutexes.{mutex-no_lock, next-owner}
use Rattle.abt_laws.proofs.SoundMoves.{keeps-moves}
use Rattle.abt_laws.proofs.SoundSteps.{IsStepping, in-no-frame, off-locks, keeps-goes_on, waiting-below, tray-below}

-- a condition is no reader-writer lock
pub condition-no_lock : (W : Parts) (x : ℕ) → IsCondition W x → thing_at W x ≡ Some thing.RwLock → ⊥
condition-no_lock W x is r = let k : Some (thing.Cond is.0) ≡ Some thing.RwLock = sym is.1 ∙ r in cc

-- Moves to the waiters of object x.

waiting-well : (W : Parts) (S : State) (c : Change) (x i : ℕ) (vs : List ℕ) → i + length vs ≤ put_all S.object_next c.object_next x → HoldsUp W (changed S c) x (thing_at W x) →
    EachOf (IsWakeable W S) vs → EachOf (λ (m : ℕ × Place). MovesWell W S c m.0 m.1) (waiting_moves x i vs)
waiting-well W S c x i vs l up each =
    waiting_moves-each (λ m. MovesWell W S c m.0 m.1) (IsWakeable W S) x i vs (λ v t b wakes. record { declared = wakes.declared; placed = (omega arith, up); alone = tt; joined = inl refl }) each

waiting-frameless : (W : Parts) (S : State) (x i : ℕ) (vs : List ℕ) → EachOf (IsWakeable W S) vs → EachOf (λ (m : ℕ × Place). IsFrameless S m.0) (waiting_moves x i vs)
waiting-frameless W S x i vs each = waiting_moves-each (λ m. IsFrameless S m.0) (IsWakeable W S) x i vs (λ v t b wakes. wakes.frameless) each

waiting-off : (W : Parts) (S : State) (x i : ℕ) (vs : List ℕ) → (thing_at W x ≡ Some thing.RwLock → ⊥) → EachOf (IsWakeable W S) vs → EachOf (MovesOffLocks W S) (waiting_moves x i vs)
waiting-off W S x i vs other each = waiting_moves-each (MovesOffLocks W S) (IsWakeable W S) x i vs (λ v t b wakes. (wakes.off_locks, other)) each

mutex-off : (W : Parts) (m n : ℕ) → IsMutex W m → thing_at W m ≡ Some (thing.Barrier n) → ⊥
mutex-off W m n is b = let k : Some thing.Mutex ≡ Some (thing.Barrier n) = sym is ∙ b in cc

module _ (W : Parts) (Z : Stored) (S : State) (s u : ℕ) (step : IsStepping W Z S s u) where
  -- u waits at condition x, and mutex m is handed over
  pub keeps-releases : (x m : ℕ) → IsCondition W x → IsMutex W m → Keeps W Z S (releases W S s u x m)
  keeps-releases x m cond is =
      let pl : Place = place.Blocked (spot.Object (object_no x)) (S.object_next x) in
      let us : List ℕ = first_alone (standing W S (Waiting m)) in
      let i : ℕ = tray_end W S s in
      let c : Change = releases W S s u x m in
      let next : put_at S.object_next x (suc (S.object_next x)) x ≡ suc (S.object_next x) = put_at-same S.object_next x (suc (S.object_next x)) in
      let woken : EachOf (IsWakeable W S) us = wakeable-first W S (Waiting m) tt (mutex-no_lock W m is) in
      let apart : x ≡ m → ⊥ = λ e. let k : Some (thing.Cond cond.0) ≡ Some thing.Mutex = sym cond.1 ∙ (ap (thing_at W) e ∙ is) in cc in
      let still : first (standing W S (Waiting m)) ≡ None → IsEmpty (Waiting m) (places S c) =
      λ none. empty-still S c (Waiting m) (λ e. let k : x ≡ m = cc in apart k, tray_moves-places (λ p. line_of p ≡ Some (Waiting m) → ⊥) s i us (λ t e. cc)) (none-first W S step.sound.undeclared (Waiting m) none) in
      keeps-moves W Z S s u step ((u, pl) ∷ to_tray W S s us) [] ((x, suc (S.object_next x)) ∷ []) ((m, set_owner (first (standing W S (Waiting m))) (S.mutex m)) ∷ []) (
        free-above S.place u pl (Waiting x) (S.object_next x) (same-self x (S.object_next x)) (waiting-below W Z S x step.sound),
        tray-free s i (put_at S.place u pl) us (IsBelow-move (InTray s) i S.place u pl (λ e. cc) (tray-below W Z S s u step)),
      ) (
        record {
          declared = step.declared;
          placed = (subst (λ n. S.object_next x < n) (sym next) (omega arith), subst (HoldsUp W (changed S c) x) (sym cond.1) tt);
          alone = tt;
          joined = inl refl;
        },
        tray-well W S c s i us step.stream step.rests woken,
      )
      (λ n b. let k : Some (thing.Cond cond.0) ≡ Some (thing.Barrier n) = sym cond.1 ∙ b in cc, tray_moves-places (IsOffBarriers W) s i us (λ t. tt))
      ((off-locks W Z S s u step, condition-no_lock W x cond), tray-off W S s i us woken)
      (in-no-frame W Z S s u step, tray-frameless W S s i us woken)
      tt (omega arith, tt) (next-owner (places S c) m (standing W S (Waiting m)) (S.mutex m) still, tt)

  -- these units come to mutex m, which is held
  keeps-queues : (m : ℕ) (vs : List ℕ) → IsMutex W m → IsSome (S.mutex m).owner → EachOf (IsWakeable W S) vs → Keeps W Z S (queues S u m vs)
  keeps-queues m vs is held each =
      let t : ℕ = S.object_next m in
      let c : Change = queues S u m vs in
      let next : put_at S.object_next m (t + length vs) m ≡ t + length vs = put_at-same S.object_next m (t + length vs) in
      keeps-moves W Z S s u step (waiting_moves m t vs) [] ((m, t + length vs) ∷ []) []
      (waiting-free m t S.place vs (waiting-below W Z S m step.sound))
      (waiting-well W S c m t vs (subst (λ n. t + length vs ≤ n) (sym next) (omega arith)) (subst (HoldsUp W (changed S c) m) (sym is) held) each)
      (waiting_moves-places (IsOffBarriers W) m t vs (λ k n b. mutex-off W m n is b))
      (waiting-off W S m t vs (mutex-no_lock W m is) each)
      (waiting-frameless W S m t vs each)
      tt (omega arith, tt) tt

  -- the first of these units becomes the owner of mutex m, which was free, and the others come to it
  keeps-enters : (m w : ℕ) (ws : List ℕ) → IsMutex W m → EachOf (IsWakeable W S) (w ∷ ws) → Keeps W Z S (passes W S s u m None (w ∷ ws))
  keeps-enters m w ws is each =
      let t : ℕ = S.object_next m in
      let i : ℕ = tray_end W S s in
      let c : Change = passes W S s u m None (w ∷ ws) in
      let next : put_at S.object_next m (t + length ws) m ≡ t + length ws = put_at-same S.object_next m (t + length ws) in
      let owner : put_at S.mutex m (set_owner (Some w) (S.mutex m)) m ≡ set_owner (Some w) (S.mutex m) = put_at-same S.mutex m (set_owner (Some w) (S.mutex m)) in
      let held : IsSome (put_at S.mutex m (set_owner (Some w) (S.mutex m)) m).owner = subst (λ (k : Mutex). IsSome k.owner) (sym owner) refl in
      let away : EachOf (λ (k : ℕ × Place). line_of k.1 ≡ Some (InTray s) → ⊥) (waiting_moves m t ws) = waiting_moves-places (λ p. line_of p ≡ Some (InTray s) → ⊥) m t ws (λ k e. cc) in
      keeps-moves W Z S s u step (waiting_moves m t ws ++ to_tray W S s (w ∷ [])) [] ((m, t + length ws) ∷ []) ((m, set_owner (Some w) (S.mutex m)) ∷ [])
      (AllFree-append S.place (waiting_moves m t ws) (to_tray W S s (w ∷ [])) (waiting-free m t S.place ws (waiting-below W Z S m step.sound))
      (tray-free s i (put_all S.place (waiting_moves m t ws)) (w ∷ []) (IsBelow-moves (InTray s) i S.place (waiting_moves m t ws) away (tray-below W Z S s u step))))
      (EachOf-append _ (waiting_moves m t ws) (to_tray W S s (w ∷ []))
      (waiting-well W S c m t ws (subst (λ n. t + length ws ≤ n) (sym next) (omega arith)) (subst (HoldsUp W (changed S c) m) (sym is) held) each.1)
      (tray-well W S c s i (w ∷ []) step.stream step.rests (each.0, tt)))
      (EachOf-append _ (waiting_moves m t ws) (to_tray W S s (w ∷ [])) (waiting_moves-places (IsOffBarriers W) m t ws (λ k n b. mutex-off W m n is b)) (tt, tt))
      (EachOf-append _ (waiting_moves m t ws) (to_tray W S s (w ∷ [])) (waiting-off W S m t ws (mutex-no_lock W m is) each.1) (tray-off W S s i (w ∷ []) (each.0, tt)))
      (EachOf-append _ (waiting_moves m t ws) (to_tray W S s (w ∷ [])) (waiting-frameless W S m t ws each.1) (tray-frameless W S s i (w ∷ []) (each.0, tt)))
      tt (omega arith, tt) (inl refl, tt)

  -- these units come from a condition to mutex m
  pub keeps-passes : (m : ℕ) (o : Option ℕ) (vs : List ℕ) → IsMutex W m → (S.mutex m).owner ≡ o → EachOf (IsWakeable W S) vs → Keeps W Z S (passes W S s u m o vs)
  keeps-passes m o [] is e each = keeps-goes_on W Z S s u step
  keeps-passes m (Some v) (w ∷ ws) is e each = keeps-queues m (w ∷ ws) is (subst IsSome (sym e) refl) each
  keeps-passes m None (w ∷ ws) is e each = keeps-enters m w ws is each
