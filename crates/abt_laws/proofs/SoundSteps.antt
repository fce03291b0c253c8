-- What the rows of steps have in common. Unit u, in the hand of stream s, makes a step.
use Rattle.std.proofs.Common.{◌≡◌, ℕ, suc, ◌<◌, ◌≤◌, List, [], ◌∷◌, length, Option, Some, None, refl, sym, ◌∙◌, subst, arith, inl}
use Rattle.std.specs.Prelude.{IsSome}
use Rattle.abt_machine.specs.declared.events.Place.{Place}
use Rattle.abt_machine.specs.declared.events.Place.TheVariants as place
use Rattle.abt_machine.specs.declared.events.Spot.TheVariants as spot
use Rattle.abt_machine.specs.Stored.{Stored}
use Rattle.abt_machine.specs.declared.operations.Thing.{Thing}
use Rattle.abt_machine.specs.declared.operations.Thing.TheVariants as thing
use Rattle.abt_machine.specs.declared.workload.Parts.{Parts}
use Rattle.abt_machine.specs.Numbers.{stream_no, object_no}
use Rattle.abt_machine.specs.Maps.{put_at}
use Rattle.abt_machine.specs.Workloads.{body_at, ops_of, thing_at}
use Rattle.abt_machine.specs.State.{State, Carried, Desk, Mutex, Future, RwLock}
use Rattle.abt_machine.specs.Lines.{InTray, hand, InHand, InNext, Waiting, standing, tray_end}
use Rattle.abt_machine.specs.Carrying.{advanced}
use Rattle.abt_machine.specs.Next.{StepDue, due}
use Rattle.abt_machine.specs.Changes.{Change, no_change, changed, to_tray, goes_with, goes_on}
use Rattle.abt_machine.specs.Steps.{wakes, waits, asks}
use Rattle.abt_machine.specs.Sound.{Sound, IsPlaced, IsAtRest, HoldsUp}
use Rattle.abt_laws.proofs.LineMoves.{tray_moves-places}
use Rattle.abt_laws.proofs.Dues.{due-no_tray, due-no_next, due-unit, step-due}
use Rattle.abt_laws.proofs.Maps.{put_at-same, put_at-other}
use Rattle.abt_laws.proofs.Lists.{EachOf}
use Rattle.abt_laws.proofs.Places.{same-self}
use Rattle.abt_laws.proofs.Arrivals.{IsEmpty, IsBelow, IsBelow-empty, free-above, tray-free}
use Rattle.abt_laws.proofs.Standing.{StandsIn, first-stands}
use Rattle.abt_laws.proofs.SoundChanges.{Keeps, places, CarriesWell, AsksWell, LocksHold, LocksWell, MutexHolds, EventualHolds, FutureHolds, placed-below}
use Rattle.abt_laws.proofs.Barriers.{barriers-stay, barriers-wait, IsOffBarriers}
use Rattle.abt_laws.proofs.SoundFrames.{IsFrameless, frames-stay}
use Rattle.abt_laws.proofs.Locks.{IsOffLocks, locks-stay}
use Rattle.abt_laws.proofs.Wakes.{IsWakeable, tray-well, tray-frameless, tray-off}

-- what is known if stream s makes a step of the unit u in its hand
pub record IsStepping (W : Parts) (Z : Stored) (S : State) (s u : ℕ) : Type 0 where
  pub sound : Sound W Z S
  pub stream : s < W.streams
  pub declared : u < length W.units
  pub in_hand : S.place u ≡ place.Hand (stream_no s)
  pub rests : IsAtRest (S.stream s)
  pub no_tray : IsEmpty (InTray s) S.place
  pub no_next : IsEmpty (InNext s) S.place
  pub position : (S.carried u).position < length (ops_of (body_at W u))

pub stepping : (W : Parts) (Z : Stored) (S : State) (s u : ℕ) → Sound W Z S → s < W.streams → due W S s ≡ StepDue → hand W S s ≡ Some u → IsStepping W Z S s u
stepping W Z S s u sound l is_due held =
    let is : StandsIn W S (InHand s) u = first-stands W S (InHand s) u held in
    let at : S.place u ≡ place.Hand (stream_no s) = is.at in
    let placed : IsPlaced W S u (place.Hand (stream_no s)) = subst (IsPlaced W S u) at (sound.placed u) in
    record {
      sound = sound;
      stream = l;
      declared = is.declared;
      in_hand = at;
      rests = placed.1;
      no_tray = due-no_tray W S s sound.undeclared StepDue is_due tt;
      no_next = due-no_next W S s sound.undeclared StepDue is_due tt;
      position = (step-due W s (S.stream s).mark (body_at W u) (S.carried u).position (due-unit W S s StepDue u is_due tt held)).1;
    }

-- what holds up a unit depends on the object alone
HoldsUp-same : (W : Parts) (S T : State) (x : ℕ) (o : Option Thing) → T.mutex x ≡ S.mutex x → T.eventual x ≡ S.eventual x → T.future x ≡ S.future x → HoldsUp W S x o → HoldsUp W T x o
HoldsUp-same W S T x None m e f h = h
HoldsUp-same W S T x (Some thing.Mutex) m e f h = subst (λ (k : Mutex). IsSome k.owner) (sym m) h
HoldsUp-same W S T x (Some thing.Eventual) m e f h = e ∙ h
HoldsUp-same W S T x (Some (thing.Future n r)) m e f h = subst (λ (k : Future). k.filled < n) (sym f) h
HoldsUp-same W S T x (Some _) m e f h = tt

-- the tickets of those who wait at x are below the next
pub waiting-below : (W : Parts) (Z : Stored) (S : State) (x : ℕ) → Sound W Z S → IsBelow (Waiting x) (S.object_next x) S.place
waiting-below W Z S x sound = placed-below W Z S (Waiting x) (S.object_next x) sound (λ v t k. k.0)

module _ (W : Parts) (Z : Stored) (S : State) (s u : ℕ) (step : IsStepping W Z S s u) where
  pub in-no-frame : IsFrameless S u
  in-no-frame r d h = let e : place.Hand (stream_no s) ≡ place.Frame (stream_no r) d = sym step.in_hand ∙ h in cc

  -- u waits at no reader-writer lock
  pub off-locks : IsOffLocks W (S.place u)
  off-locks = subst (IsOffLocks W) (sym step.in_hand) tt

  pub may-wake : IsWakeable W S u
  may-wake = record { declared = step.declared; frameless = in-no-frame; off_locks = off-locks }

  -- u goes on with another accumulator, keys or output
  carries : (c : Carried) → length c.keys ≡ length (S.carried u).keys → c.home ≡ (S.carried u).home → c.position ≡ (S.carried u).position → CarriesWell W u (advanced c)
  carries c keys home position =
      record {
        keys = keys ∙ step.sound.keys u;
        home = subst (λ p. p < length W.pools) (sym home) (step.sound.homes u);
        position = subst (λ k. suc k ≤ length (ops_of (body_at W u))) (sym position) (let l : (S.carried u).position < length (ops_of (body_at W u)) = step.position in omega arith);
      }

  pub carries-on : CarriesWell W u (advanced (S.carried u))
  carries-on = carries (S.carried u) refl refl refl

  -- the tray has room for all
  pub tray-below : IsBelow (InTray s) (tray_end W S s) S.place
  tray-below = IsBelow-empty (InTray s) (tray_end W S s) S.place step.no_tray

  -- units come to the tray
  pub keeps-wakes : (us : List ℕ) (cs : List (ℕ × Carried)) (ds : List (ℕ × Desk)) (ms : List (ℕ × Mutex)) (es : List (ℕ × Option ℕ)) (fs : List (ℕ × Future)) →
      let c : Change = record no_change { moves = to_tray W S s us; carried = cs; desks = ds; mutexes = ms; eventuals = es; futures = fs } in
      EachOf (IsWakeable W S) us →
      EachOf (λ (m : ℕ × Carried). CarriesWell W m.0 m.1) cs →
      EachOf (λ (m : ℕ × Desk). AsksWell W S m.0 m.1) ds →
      EachOf (λ (m : ℕ × Mutex). MutexHolds (places S c) m.0 m.1) ms →
      EachOf (λ (m : ℕ × Option ℕ). EventualHolds (places S c) m.0 m.1) es →
      EachOf (λ (m : ℕ × Future). FutureHolds W S (places S c) m.0 m.1) fs →
      Keeps W Z S c
  keeps-wakes us cs ds ms es fs each a b d e f =
      let c : Change = record no_change { moves = to_tray W S s us; carried = cs; desks = ds; mutexes = ms; eventuals = es; futures = fs } in
      record {
        free = tray-free s (tray_end W S s) S.place us tray-below;
        moves = tray-well W S c s (tray_end W S s) us step.stream step.rests each;
        barriers = barriers-stay W Z S step.sound c (tray_moves-places (IsOffBarriers W) s (tray_end W S s) us (λ t. tt));
        carried = a;
        desks = b;
        pool_next = tt;
        join_next = tt;
        object_next = tt;
        mutexes = d;
        eventuals = e;
        futures = f;
        rwlocks = tt;
        locks = locks-stay W Z S c step.sound refl (tray-off W S s (tray_end W S s) us each);
        frames = frames-stay W Z S c step.sound (tray-frameless W S s (tray_end W S s) us each) tt;
      }

  -- nobody moves
  pub keeps-still : (cs : List (ℕ × Carried)) (ds : List (ℕ × Desk)) (ms : List (ℕ × Mutex)) (es : List (ℕ × Option ℕ)) (fs : List (ℕ × Future)) →
      EachOf (λ (m : ℕ × Carried). CarriesWell W m.0 m.1) cs →
      EachOf (λ (m : ℕ × Desk). AsksWell W S m.0 m.1) ds →
      EachOf (λ (m : ℕ × Mutex). MutexHolds S.place m.0 m.1) ms →
      EachOf (λ (m : ℕ × Option ℕ). EventualHolds S.place m.0 m.1) es →
      EachOf (λ (m : ℕ × Future). FutureHolds W S S.place m.0 m.1) fs →
      Keeps W Z S (record no_change { carried = cs; desks = ds; mutexes = ms; eventuals = es; futures = fs })
  keeps-still cs ds ms es fs a b d e f = keeps-wakes [] cs ds ms es fs tt a b d e f

  -- u goes on, with this to carry
  pub keeps-goes_with : (c : Carried) → length c.keys ≡ length (S.carried u).keys → c.home ≡ (S.carried u).home → c.position ≡ (S.carried u).position → Keeps W Z S (goes_with u c)
  keeps-goes_with c keys home position = keeps-still ((u, advanced c) ∷ []) [] [] [] [] (carries c keys home position, tt) tt tt tt tt

  pub keeps-goes_on : Keeps W Z S (goes_on S u)
  keeps-goes_on = keeps-goes_with (S.carried u) refl refl refl

  -- u asks something of v
  pub keeps-asks : (v : ℕ) (d : Desk) → AsksWell W S v d → Keeps W Z S (asks S u v d)
  keeps-asks v d well = keeps-still ((u, advanced (S.carried u)) ∷ []) ((v, d) ∷ []) [] [] [] (carries-on, tt) (well, tt) tt tt tt

  -- u goes on, and these units come to the tray
  pub keeps-wakes_only : (us : List ℕ) → EachOf (IsWakeable W S) us → Keeps W Z S (wakes W S s u us)
  keeps-wakes_only us each = keeps-wakes us ((u, advanced (S.carried u)) ∷ []) [] [] [] [] each (carries-on, tt) tt tt tt tt

  -- u waits at x, which holds it up, and has room for one more if it is a barrier, and these reader-writer locks change
  pub keeps-comes : (x : ℕ) (ks : List (ℕ × RwLock)) →
      let c : Change = record (waits S u x) { rwlocks = ks } in
      HoldsUp W S x (thing_at W x) → ((n : ℕ) → thing_at W x ≡ Some (thing.Barrier n) → suc (length (standing W S (Waiting x))) < n) →
      EachOf (λ (m : ℕ × RwLock). LocksWell W S m.0 m.1) ks → LocksHold W (changed S c) → Keeps W Z S c
  keeps-comes x ks up room rwlocks locks =
      let c : Change = record (waits S u x) { rwlocks = ks } in
      let pl : Place = place.Blocked (spot.Object (object_no x)) (S.object_next x) in
      let next : put_at S.object_next x (suc (S.object_next x)) x ≡ suc (S.object_next x) = put_at-same S.object_next x (suc (S.object_next x)) in
      record {
        free = (free-above S.place u pl (Waiting x) (S.object_next x) (same-self x (S.object_next x)) (waiting-below W Z S x step.sound), tt);
        moves = (
          record {
            declared = step.declared;
            placed = (subst (λ n. S.object_next x < n) (sym next) (omega arith), HoldsUp-same W S (changed S c) x (thing_at W x) refl refl refl up);
            alone = tt;
            joined = inl refl;
          },
          tt,
        );
        barriers = barriers-wait W Z S step.sound (changed S c) u x (S.object_next x) (λ v ne. put_at-other S.place u pl v ne) (put_at-same S.place u pl) room;
        carried = (carries-on, tt);
        desks = tt;
        pool_next = tt;
        join_next = tt;
        object_next = (omega arith, tt);
        mutexes = tt;
        eventuals = tt;
        futures = tt;
        rwlocks = rwlocks;
        locks = locks;
        frames = frames-stay W Z S c step.sound (in-no-frame, tt) tt;
      }

  -- u waits at x, which is no reader-writer lock
  pub keeps-waits : (x : ℕ) → (thing_at W x ≡ Some thing.RwLock → ⊥) → HoldsUp W S x (thing_at W x) → ((n : ℕ) → thing_at W x ≡ Some (thing.Barrier n) → suc (length (standing W S (Waiting x))) < n) → Keeps W Z S (waits S u x)
  keeps-waits x other up room = keeps-comes x [] up room tt (locks-stay W Z S (waits S u x) step.sound refl ((off-locks, other), tt))
