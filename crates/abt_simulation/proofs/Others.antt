-- What a local change leaves: the parts of other streams, and the objects at other sites.
use Rattle.std.proofs.Common.{◌≡◌, ◌≢◌, ℕ, suc, map, Option, Some, None, refl, sym, ◌∙◌, ap, arith, ◌⊎◌, inl, inr}
use Rattle.abt_machine.specs.declared.events.Place.{Place}
use Rattle.abt_machine.specs.declared.events.Place.TheVariants as place
use Rattle.abt_machine.specs.declared.events.Site.{Site}
use Rattle.abt_machine.specs.declared.events.Site.TheVariants as site
use Rattle.abt_machine.specs.declared.events.Spot.TheVariants as spot
use Rattle.abt_machine.specs.declared.operations.Thing.{Thing}
use Rattle.abt_machine.specs.declared.operations.Thing.TheVariants as thing
use Rattle.abt_machine.specs.declared.workload.Parts.{Parts}
use Rattle.abt_machine.specs.Numbers.{unit_no, object_no}
use Rattle.abt_machine.specs.Queues.{first}
use Rattle.abt_machine.specs.Workloads.{thing_at, is_sched, body_at, kind_of}
use Rattle.abt_machine.specs.Sites.{thing_site}
use Rattle.abt_machine.specs.State.{State}
use Rattle.abt_machine.specs.Lines.{Line, InPool, InTray, InHand, InNext, InFrames, Joining, Waiting, standing}
use Rattle.abt_machine.specs.Changes.{Change, changed}
use Rattle.abt_machine.specs.Values.{Owned, owned_at, owned_in, part_of, Out, phase_at, desk_value, waiters_at, monitor_value, conditions_of, PoolIs, DeskIs, MonitorIs, EventualIs, FutureIs, BarrierIs, RwLockIs, object_of, monitor_at, eventual_at, future_at, barrier_at, rwlock_at}
use Rattle.abt_laws.specs.Footprint.{Within, holder}
use Rattle.abt_laws.proofs.Lists.{EachOf-then}
use Rattle.abt_laws.proofs.Options.{none≢some}
use Rattle.abt_laws.proofs.Keeping.{IsKept, line_holder, standing-kept}
use Rattle.abt_laws.proofs.Local.{IsLocal}
use Rattle.abt_laws.proofs.Alike.{IsAlike, alike-after, standing-alike}
use Rattle.abt_simulation.proofs.Conditions.{conditions-declared, map-same}
use Rattle.abt_simulation.proofs.OwnedLines.{owned-same}

-- What is alike in two states, is the same as a value.

module _ (W : Parts) (s : ℕ) (x : Option Site) (S T : State) (alike : IsAlike W s x S T) where
  -- a line
  pub owned-alike : (l : Line) → Within s x (line_holder W l) → owned_in W T l ≡ owned_in W S l
  owned-alike l w =
      ap (map (owned_at T)) (sym (standing-alike W s x S T alike l w))
      ∙ owned-same S T (standing W S l) (EachOf-then (IsKept W S s x) (λ u. T.carried u ≡ S.carried u) (standing W S l) (λ u kept. sym (alike.units u (inl kept)).1) (standing-kept W S s x l w))

  -- the part of the stream
  pub part-alike : part_of W T s ≡ part_of W S s
  part-alike = λ i. record {
    own = sym alike.stream i;
    hand = first (owned-alike (InHand s) refl i);
    next = first (owned-alike (InNext s) refl i);
    tray = owned-alike (InTray s) refl i;
    framed = owned-alike (InFrames s) refl i;
  }

-- a desk's unit is kept at its desk, or the desk is out
phase-elsewhere : (W : Parts) (s u : ℕ) (o : Owned) (pl : Place) → Within s (Some (site.Desk (unit_no u))) (holder W u pl) ⊎ (phase_at o pl ≡ Out)
phase-elsewhere W s u o place.Unborn = inl refl
phase-elsewhere W s u o (place.Blocked spot.Suspended t) = inl refl
phase-elsewhere W s u o (place.Ended c) = inl refl
phase-elsewhere W s u o _ = inr refl

-- where a desk's unit is
phase-alike : (W : Parts) (s u : ℕ) (S T : State) → IsAlike W s (Some (site.Desk (unit_no u))) S T → phase_at (owned_at T u) (T.place u) ≡ phase_at (owned_at S u) (S.place u)
phase-alike W s u S T alike =
    elim (phase-elsewhere W s u (owned_at S u) (S.place u)) [
      | inl w ↦ both (alike.units u (inl w))
      | inr out ↦ elim (phase-elsewhere W s u (owned_at T u) (T.place u)) [ inl w ↦ both (alike.units u (inr w)) | inr away ↦ away ∙ sym out ]
    ] where
      both : (S.place u ≡ T.place u) × (S.carried u ≡ T.carried u) → phase_at (owned_at T u) (T.place u) ≡ phase_at (owned_at S u) (S.place u)
      both e = λ i. phase_at (record { number = u; carried = sym e.1 i }) (sym e.0 i)

module _ (W : Parts) (s : ℕ) (S T : State) where
  -- the waiters of an object that the site keeps
  waiters-alike : (x : Site) (y : ℕ) (t : Option Thing) → IsAlike W s (Some x) S T → thing_at W y ≡ t → x ≡ thing_site y t → waiters_at W T y ≡ waiters_at W S y
  waiters-alike x y t alike is at = owned-alike W s (Some x) S T alike (Waiting y) (ap (λ z. Some z) (at ∙ ap (thing_site y) (sym is)))

  -- a monitor
  monitor-alike : (m : ℕ) → thing_at W m ≡ Some thing.Mutex → IsAlike W s (Some (site.Monitor (object_no m))) S T → monitor_value W T m ≡ monitor_value W S m
  monitor-alike m is alike =
      let same : S.mutex m ≡ T.mutex m = alike.mutex m refl in
      λ i. record {
        owner = (sym same i).owner;
        number = (sym same i).number;
        waiters = waiters-alike (site.Monitor (object_no m)) m (Some thing.Mutex) alike is refl i;
        conds = map-same (waiters_at W T) (waiters_at W S) (conditions_of W m)
            (EachOf-then (λ y. thing_at W y ≡ Some (thing.Cond (object_no m))) (λ y. waiters_at W T y ≡ waiters_at W S y) (conditions_of W m)
            (λ y e. waiters-alike (site.Monitor (object_no m)) y (Some (thing.Cond (object_no m))) alike e refl) (conditions-declared W m)) i;
      }

  -- a desk
  desk-alike : (u : ℕ) → IsAlike W s (Some (site.Desk (unit_no u))) S T → desk_value W T u ≡ desk_value W S u
  desk-alike u alike =
      let same : S.desk u ≡ T.desk u = alike.desk u refl in
      λ i. record {
        number = u;
        sched = is_sched (body_at W u);
        phase = phase-alike W s u S T alike i;
        joiners = owned-alike W s _ S T alike (Joining u) refl i;
        cancel = (sym same i).cancel;
        migrate = (sym same i).migrate;
        migratable = (sym same i).migratable;
      }

  -- the object at the site
  object-alike : (x : Site) → IsAlike W s (Some x) S T → object_of W T x ≡ object_of W S x
  object-alike (site.Pool p) alike = ap (λ os. PoolIs (record { kind = kind_of W p.0; units = os })) (owned-alike W s _ S T alike (InPool p.0) refl)
  object-alike (site.Desk u) alike = ap DeskIs (desk-alike u.0 alike)
  object-alike (site.Monitor x) alike = by (thing_at W x.0) refl where
    by : (t : Option Thing) → thing_at W x.0 ≡ t → monitor_at W T x.0 t ≡ monitor_at W S x.0 t
    by (Some thing.Mutex) e = ap MonitorIs (monitor-alike x.0 e alike)
    by _ e = refl
  object-alike (site.Eventual x) alike = by (thing_at W x.0) refl where
    by : (t : Option Thing) → thing_at W x.0 ≡ t → eventual_at W T x.0 t ≡ eventual_at W S x.0 t
    by (Some thing.Eventual) e = λ i. EventualIs (record { value = sym (alike.eventual x.0 refl) i; waiters = waiters-alike (site.Eventual x) x.0 (Some thing.Eventual) alike e refl i })
    by _ e = refl
  object-alike (site.Future x) alike = by (thing_at W x.0) refl where
    by : (t : Option Thing) → thing_at W x.0 ≡ t → future_at W T x.0 t ≡ future_at W S x.0 t
    by (Some (thing.Future n c)) e =
        let same : S.future x.0 ≡ T.future x.0 = alike.future x.0 refl in
        λ i. FutureIs (record { size = n; combine = c; filled = (sym same i).filled; value = (sym same i).value; waiters = waiters-alike (site.Future x) x.0 (Some (thing.Future n c)) alike e refl i })
    by _ e = refl
  object-alike (site.Barrier x) alike = by (thing_at W x.0) refl where
    by : (t : Option Thing) → thing_at W x.0 ≡ t → barrier_at W T x.0 t ≡ barrier_at W S x.0 t
    by (Some (thing.Barrier n)) e = ap (λ os. BarrierIs (record { size = n; waiters = os })) (waiters-alike (site.Barrier x) x.0 (Some (thing.Barrier n)) alike e refl)
    by _ e = refl
  object-alike (site.Rw x) alike = by (thing_at W x.0) refl where
    by : (t : Option Thing) → thing_at W x.0 ≡ t → rwlock_at W T x.0 t ≡ rwlock_at W S x.0 t
    by (Some thing.RwLock) e = λ i. RwLockIs (record { lock = sym (alike.rwlock x.0 refl) i; waiters = waiters-alike (site.Rw x) x.0 (Some thing.RwLock) alike e refl i })
    by _ e = refl

-- A local change of stream s and site x leaves all other parts and objects.

module _ (W : Parts) (S : State) (s : ℕ) (x : Option Site) (c : Change) (local : IsLocal W S s x c) where
  -- the parts of other streams
  pub parts-stay : (r : ℕ) → r ≢ s → part_of W (changed S c) r ≡ part_of W S r
  parts-stay r ne = part-alike W r None S (changed S c) (alike-after W S s r x None c (λ e. ne (sym e)) (λ z e f. none≢some f) local)

  -- the objects at other sites
  pub objects-stay : (y : Site) → x ≢ Some y → object_of W (changed S c) y ≡ object_of W S y
  objects-stay y ne =
      object-alike W (suc s) S (changed S c) y (alike-after W S s (suc s) x (Some y) c (λ (e : s ≡ suc s). absurd (omega arith)) (λ z e f. ne (e ∙ sym f)) local)
