-- Steps at a reader-writer lock keep a sound state sound. Unit u, in the hand of stream s, makes the step at lock x.
use Rattle.std.proofs.Common.{◌≡◌, ◌≢◌, ℕ, ◌<◌, ◌+◌, List, [], ◌∷◌, ◌++◌, length, map, Some, None, refl, sym, ◌∙◌, ap, subst, inl}
use Rattle.std.proofs.lemmas.Bool.{cond_both}
use Rattle.std.proofs.lemmas.List.{length-set}
use Rattle.std.specs.Prelude.{IsTrue}
use Rattle.abt_machine.specs.declared.events.Place.TheVariants as place
use Rattle.abt_machine.specs.declared.events.Wish.{Wish}
use Rattle.abt_machine.specs.declared.events.Wish.TheVariants as wish
use Rattle.abt_machine.specs.Stored.{Stored}
use Rattle.abt_machine.specs.declared.operations.Thing.TheVariants as thing
use Rattle.abt_machine.specs.declared.workload.Parts.{Parts}
use Rattle.abt_machine.specs.Numbers.{stream_no}
use Rattle.abt_machine.specs.Holders.{count_of, holds, is_free, read_by, writes, written_by}
use Rattle.abt_machine.specs.Monitors.{number_of}
use Rattle.abt_machine.specs.State.{State, RwLock}
use Rattle.abt_machine.specs.Lines.{Waiting, standing, ticket_in, tray_end}
use Rattle.abt_machine.specs.Operations.{IsRwLock}
use Rattle.abt_machine.specs.RwLocks.{left_by, may_read, passed_on, wanting, woken}
use Rattle.abt_machine.specs.Values.{Owned, RwLockValue, owned_at, rwlock_value}
use Rattle.abt_machine.specs.Changes.{Change, changed, goes_on, to_tray}
use Rattle.abt_machine.specs.Steps.{gives_up, reads_or_waits, waits, wakes, writes_or_waits}
use Rattle.abt_machine.specs.Sound.{IsKept, HoldsUp}
use Rattle.abt_laws.proofs.LineMoves.{tray_moves-among, tray_moves-each, tray_moves-key, tray_moves-places}
use Rattle.abt_laws.proofs.Lists.{EachOf, EachOf-map, EachOf-then}
use Rattle.abt_laws.proofs.LinesAfter.{line-behind, line-gets}
use Rattle.abt_laws.proofs.Places.{place_in, same-self}
use Rattle.abt_laws.proofs.Arrivals.{tray-free}
use Rattle.abt_laws.proofs.Standing.{StandsIn, each-stands}
use Rattle.abt_laws.proofs.SoundChanges.{Keeps, LocksWell, MovesWell}
use Rattle.abt_laws.proofs.Barriers.{IsOffBarriers, barriers-stay}
use Rattle.abt_laws.proofs.SoundFrames.{IsFrameless, frames-stay}
use Rattle.abt_laws.proofs.Granted.{owned-numbers, woken-each, woken-standing}
use Rattle.abt_laws.proofs.Locks.{elsewhere, locks-become, same-waiters}
use Rattle.abt_laws.proofs.KeptLocks.{IsKeptValue, apart_from_holders, kept-passed_on, kept-read, kept-store, kept-wait_to_read, kept-wait_to_write, kept-write, length-given_up, length-passed_on, not-read, released, rest-given_up, rest-passed_on}
use Rattle.abt_laws.proofs.Wakes.{frameless-in}
use Rattle.abt_laws.proofs.SoundSteps.{IsStepping, carries-on, keeps-comes, tray-below, waiting-below}

module _ (W : Parts) (Z : Stored) (S : State) (s u : ℕ) (step : IsStepping W Z S s u) (x : ℕ) (is : IsRwLock W x) where
  -- the lock with its waiters
  abbrev old : RwLockValue
  old = rwlock_value W S x

  -- the waiters, as numbers
  as-numbers : map number_of old.waiters ≡ standing W S (Waiting x)
  as-numbers = owned-numbers S (standing W S (Waiting x))

  is-kept : IsKeptValue old
  is-kept = subst (IsKept (S.rwlock x)) (sym as-numbers) (step.sound.locks x is)

  -- the lock has a count for each unit
  has-count : (v : ℕ) → v < length W.units → v < length (S.rwlock x).counts
  has-count v declared = subst (λ n. v < n) (sym (step.sound.counts x)) declared

  -- u does not wait at x
  apart : EachOf (λ v. v ≢ u) (map number_of old.waiters)
  apart =
      subst (EachOf (λ v. v ≢ u)) (sym as-numbers)
      (EachOf-then _ _ (standing W S (Waiting x)) (λ v at e. let k : place_in (Waiting x) at.ticket ≡ place.Hand (stream_no s) = sym at.at ∙ (ap S.place e ∙ step.in_hand) in cc) (each-stands W S (Waiting x)))

  -- units that wait at x come to the tray, and the lock becomes this
  keeps-becomes : (us : List ℕ) (lock : RwLock) →
      let c : Change = record (wakes W S s u us) { rwlocks = (x, lock) ∷ [] } in
      EachOf (StandsIn W S (Waiting x)) us → LocksWell W S x lock → IsKept lock (standing W (changed S c) (Waiting x)) → Keeps W Z S c
  keeps-becomes us lock each well kept =
      let c : Change = record (wakes W S s u us) { rwlocks = (x, lock) ∷ [] } in
      let i : ℕ = tray_end W S s in
      record {
        free = tray-free s i S.place us (tray-below W Z S s u step);
        moves = tray_moves-each (λ m. MovesWell W S c m.0 m.1) (StandsIn W S (Waiting x)) s i us (λ v t at. record { declared = at.declared; placed = (step.stream, step.rests); alone = tt; joined = inl refl }) each;
        barriers = barriers-stay W Z S step.sound c (tray_moves-places (IsOffBarriers W) s i us (λ t. tt));
        carried = (carries-on W Z S s u step, tt);
        desks = tt;
        pool_next = tt;
        join_next = tt;
        object_next = tt;
        mutexes = tt;
        eventuals = tt;
        futures = tt;
        rwlocks = (well, tt);
        locks = locks-become W Z S c step.sound x lock refl kept (λ y other. same-waiters W S c y
            (tray_moves-places (λ pl. ticket_in (Waiting y) pl ≡ None) s i us (λ t. refl))
            (tray_moves-each (λ m. ticket_in (Waiting y) (S.place m.0) ≡ None) (StandsIn W S (Waiting x)) s i us (λ v t at. ap (ticket_in (Waiting y)) at.at ∙ elsewhere x y at.ticket other) each));
        frames = frames-stay W Z S c step.sound (tray_moves-each (λ m. IsFrameless S m.0) (StandsIn W S (Waiting x)) s i us (λ v t at. frameless-in S (Waiting x) v at.ticket tt at.at) each) tt;
      }

  -- nobody is woken
  keeps-alone : (lock : RwLock) → LocksWell W S x lock → IsKept lock (standing W S (Waiting x)) → Keeps W Z S (record (goes_on S u) { rwlocks = (x, lock) ∷ [] })
  keeps-alone lock well kept = keeps-becomes [] lock tt well kept

  -- u waits at x, and what it wants is noted
  keeps-wishes : (w : Wish) → IsKept (wanting u w (S.rwlock x)) (map number_of old.waiters ++ u ∷ []) → Keeps W Z S (record (waits S u x) { rwlocks = (x, wanting u w (S.rwlock x)) ∷ [] })
  keeps-wishes w kept =
      let c : Change = record (waits S u x) { rwlocks = (x, wanting u w (S.rwlock x)) ∷ [] } in
      let t : ℕ = S.object_next x in
      let line : standing W (changed S c) (Waiting x) ≡ standing W S (Waiting x) ++ u ∷ [] =
      line-gets (length W.units) (Waiting x) S.place u t (same-self x t) step.declared (ap (ticket_in (Waiting x)) step.in_hand) (waiting-below W Z S x step.sound) in
      keeps-comes W Z S s u step x ((x, wanting u w (S.rwlock x)) ∷ []) (subst (HoldsUp W S x) (sym is) tt)
      (λ n b. let k : Some thing.RwLock ≡ Some (thing.Barrier n) = sym is ∙ b in cc) (record { counts = step.sound.counts x; wishes = length-set (S.rwlock x).wishes u w ∙ step.sound.wishes x; number = λ _. refl }, tt)
      (locks-become W Z S c step.sound x (wanting u w (S.rwlock x)) refl
      (subst (IsKept (wanting u w (S.rwlock x))) (ap (λ us. us ++ u ∷ []) as-numbers ∙ sym line) kept)
      (λ y other. same-waiters W S c y (elsewhere x y t other, tt) (ap (ticket_in (Waiting y)) step.in_hand, tt)))

  pub keeps-reads_or_waits : Keeps W Z S (reads_or_waits S u x (rwlock_value W S x))
  keeps-reads_or_waits =
      cond_both (may_read u old) (record (goes_on S u) { rwlocks = (x, read_by u (S.rwlock x)) ∷ [] }) (record (waits S u x) { rwlocks = (x, wanting u wish.Read (S.rwlock x)) ∷ [] }) (Keeps W Z S)
      (λ may. keeps-alone (read_by u (S.rwlock x)) (record { counts = length-set (S.rwlock x).counts u (count_of u (S.rwlock x) + 1) ∙ step.sound.counts x; wishes = step.sound.wishes x; number = λ _. refl })
      (subst (IsKept (read_by u (S.rwlock x))) as-numbers (kept-read u old is-kept (has-count u step.declared) may)))
      (λ no. keeps-wishes wish.Read (kept-wait_to_read u old is-kept apart no))

  pub keeps-writes_or_waits : Keeps W Z S (writes_or_waits S u x (rwlock_value W S x))
  keeps-writes_or_waits =
      cond_both (is_free (S.rwlock x)) (record (goes_on S u) { rwlocks = (x, written_by u (S.rwlock x)) ∷ [] }) (record (waits S u x) { rwlocks = (x, wanting u wish.Write (S.rwlock x)) ∷ [] }) (Keeps W Z S)
      (λ free. keeps-alone (written_by u (S.rwlock x)) (record { counts = step.sound.counts x; wishes = step.sound.wishes x; number = λ _. refl }) (subst (IsKept (written_by u (S.rwlock x))) as-numbers (kept-write u old free)))
      (λ held. keeps-wishes wish.Write (kept-wait_to_write u old is-kept apart held))

  -- u writes the lock, so no unit reads it
  pub keeps-rw_stores : (n : ℕ) → IsTrue (writes u (S.rwlock x)) → Keeps W Z S (record (goes_on S u) { rwlocks = (x, record (S.rwlock x) { number = n }) ∷ [] })
  keeps-rw_stores n has =
      let kept : IsKept (S.rwlock x) (standing W S (Waiting x)) = step.sound.locks x is in
      keeps-alone (record (S.rwlock x) { number = n }) (record { counts = step.sound.counts x; wishes = step.sound.wishes x; number = λ above. absurd (not-read u (S.rwlock x) (standing W S (Waiting x)) kept has above) }) (kept-store n (S.rwlock x) (standing W S (Waiting x)) kept)

  -- the lock that u has given up has a count for each waiter
  fits : EachOf (λ (o : Owned). o.number < length (left_by u old).lock.counts) old.waiters
  fits =
      EachOf-map (λ o. o.number < length (left_by u old).lock.counts) (StandsIn W S (Waiting x)) (owned_at S) (standing W S (Waiting x))
      (λ v at. subst (λ n. v < n) (sym (length-given_up u (S.rwlock x))) (has-count v at.declared)) (each-stands W S (Waiting x))

  pub keeps-gives_up : IsTrue (holds u (S.rwlock x)) → Keeps W Z S (gives_up W S s u x (left_by u (rwlock_value W S x)))
  keeps-gives_up has =
      let left : RwLockValue = left_by u old in
      let us : List ℕ = map number_of (woken left) in
      let vs : List ℕ = map number_of (passed_on left).waiters in
      let i : ℕ = tray_end W S s in
      let c : Change = gives_up W S s u x left in
      let parts : standing W S (Waiting x) ≡ us ++ vs = woken-standing W S x u in
      let rest : apart_from_holders (passed_on left).lock ≡ apart_from_holders (S.rwlock x) = rest-passed_on left ∙ rest-given_up u (S.rwlock x) in
      let line : standing W (changed S c) (Waiting x) ≡ vs =
      line-behind (length W.units) (Waiting x) S.place (to_tray W S s us) us vs (tray_moves-places (λ pl. ticket_in (Waiting x) pl ≡ None) s i us (λ t. refl)) parts (tray_moves-key s i us) (tray_moves-among s i us) in
      let well : LocksWell W S x (passed_on left).lock =
      record {
        counts = length-passed_on left ∙ (length-given_up u (S.rwlock x) ∙ step.sound.counts x);
        wishes = ap (λ p. length p.0) rest ∙ step.sound.wishes x;
        number = λ _. ap (λ p. p.1) rest;
      } in
      keeps-becomes us (passed_on left).lock (woken-each (StandsIn W S (Waiting x)) W S x u (each-stands W S (Waiting x))) well
      (subst (IsKept (passed_on left).lock) (sym line) (kept-passed_on left (released u old is-kept has) fits))
