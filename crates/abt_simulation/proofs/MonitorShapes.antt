-- What the rows of operations on a monitor share: the lines of its conditions stay, and a mutex is handed over. Unit u, in the hand of stream s, makes the step.
use Rattle.std.proofs.Common.{◌≡◌, ◌≢◌, ℕ, ◌==◌, List, [], ◌∷◌, map, Some, None, refl, sym, ◌∙◌, ap}
use Rattle.std.specs.Prelude.{option_map}
use Rattle.std.proofs.lemmas.Bool.{cond-false, ne_eqb}
use Rattle.abt_machine.specs.declared.events.Place.{Place}
use Rattle.abt_machine.specs.Stored.{Stored}
use Rattle.abt_machine.specs.declared.operations.Thing.TheVariants as thing
use Rattle.abt_machine.specs.declared.workload.Parts.{Parts}
use Rattle.abt_machine.specs.Numbers.{object_no}
use Rattle.abt_machine.specs.Workloads.{thing_at}
use Rattle.abt_machine.specs.Operations.{IsMutex}
use Rattle.abt_machine.specs.Queues.{first, first_alone}
use Rattle.abt_machine.specs.State.{State, Carried, Mutex}
use Rattle.abt_machine.specs.Lines.{Waiting, ticket_in, standing, tray_end}
use Rattle.abt_machine.specs.Changes.{Change, no_change, changed, to_tray}
use Rattle.abt_machine.specs.Values.{Owned, owned_at, waiters_at, conditions_of, monitor_value}
use Rattle.abt_machine.specs.Monitors.{number_of}
use Rattle.abt_laws.proofs.Lists.{EachOf, EachOf-then, EachOf-first_alone}
use Rattle.abt_laws.proofs.LineMoves.{tray_moves-each}
use Rattle.abt_laws.proofs.Maps.{put_at-same}
use Rattle.abt_laws.proofs.Options.{none≢some, some-injective}
use Rattle.abt_laws.proofs.Places.{place_in}
use Rattle.abt_laws.proofs.Standing.{StandsIn, each-stands}
use Rattle.abt_laws.proofs.LinesAfter.{NoneTo, NoneFrom}
use Rattle.abt_simulation.proofs.Acting.{IsActing}
use Rattle.abt_simulation.proofs.OwnParts.{moving}
use Rattle.abt_simulation.proofs.Shapes.{line-same}
use Rattle.abt_simulation.proofs.Conditions.{conditions-declared, map-same}

-- Who stands first.

-- by number
pub first-number : (S : State) (us : List ℕ) → first us ≡ option_map number_of (first (map (owned_at S) us))
first-number S [] = refl
first-number S (u ∷ us) = refl

pub first-woken : (S : State) (us : List ℕ) (b : Owned) → first (map (owned_at S) us) ≡ Some b → map (owned_at S) (first_alone us) ≡ b ∷ []
first-woken S [] b e = absurd (none≢some e)
first-woken S (u ∷ us) b e = ap (λ (o : Owned). o ∷ []) (some-injective e)

pub none-woken : (S : State) (us : List ℕ) → first (map (owned_at S) us) ≡ None → map (owned_at S) (first_alone us) ≡ []
none-woken S [] e = refl
none-woken S (u ∷ us) e = absurd (none≢some (sym e))

-- Lines of different objects.

pub waits-elsewhere : (x y t : ℕ) → x ≢ y → ticket_in (Waiting x) (place_in (Waiting y) t) ≡ None
waits-elsewhere x y t ne = cond-false (y == x) (Some t) None (ne_eqb y x (λ e. ne (sym e)))

-- who waits at y does not wait at x
pub line-apart : (W : Parts) (S : State) (x y : ℕ) → x ≢ y → EachOf (λ v. ticket_in (Waiting x) (S.place v) ≡ None) (standing W S (Waiting y))
line-apart W S x y ne =
    EachOf-then (StandsIn W S (Waiting y)) (λ v. ticket_in (Waiting x) (S.place v) ≡ None) (standing W S (Waiting y))
    (λ v h. ap (ticket_in (Waiting x)) h.at ∙ waits-elsewhere x y h.ticket ne) (each-stands W S (Waiting y))

-- a condition is no mutex
pub condition-apart : (W : Parts) (m x : ℕ) → IsMutex W m → thing_at W x ≡ Some (thing.Cond (object_no m)) → x ≢ m
condition-apart W m x is cond e = let k : Some (thing.Cond (object_no m)) ≡ Some thing.Mutex = sym cond ∙ (ap (thing_at W) e ∙ is) in absurd cc

module _ (W : Parts) (Z : Stored) (S : State) (s u : ℕ) (acts : IsActing W Z S s u) (m : ℕ) (is : IsMutex W m) where
  -- if nobody comes to or leaves its conditions, these stay
  pub conditions-stay : (ms : List (ℕ × Place)) (k : Carried) (c : Change) → ((x : ℕ) → x ≢ m → NoneTo (Waiting x) ms × NoneFrom (Waiting x) S.place ms) →
      map (waiters_at W (changed S (moving ms ((u, k) ∷ []) c))) (conditions_of W m) ≡ map (waiters_at W S) (conditions_of W m)
  conditions-stay ms k c apart =
      map-same (waiters_at W (changed S (moving ms ((u, k) ∷ []) c))) (waiters_at W S) (conditions_of W m)
      (EachOf-then (λ x. thing_at W x ≡ Some (thing.Cond (object_no m))) (λ x. waiters_at W (changed S (moving ms ((u, k) ∷ []) c)) x ≡ waiters_at W S x) (conditions_of W m)
      (λ x cond. let a : NoneTo (Waiting x) ms × NoneFrom (Waiting x) S.place ms = apart x (condition-apart W m x is cond) in line-same W Z S s u acts (Waiting x) tt ms k c a.0 a.1)
      (conditions-declared W m))

  -- the first waiter comes from no other line
  pub first-from : (x : ℕ) → x ≢ m → NoneFrom (Waiting x) S.place (to_tray W S s (first_alone (standing W S (Waiting m))))
  first-from x ne =
      tray_moves-each (λ p. ticket_in (Waiting x) (S.place p.0) ≡ None) (λ v. ticket_in (Waiting x) (S.place v) ≡ None) s (tray_end W S s) (first_alone (standing W S (Waiting m))) (λ v t e. e)
      (EachOf-first_alone (λ v. ticket_in (Waiting x) (S.place v) ≡ None) (standing W S (Waiting m)) (line-apart W S x m ne))

  -- u goes on, and the mutex changes
  abbrev pub holding : Carried → Mutex → Change
  holding k mutex = moving [] ((u, k) ∷ []) (record no_change { mutexes = (m, mutex) ∷ [] })

  pub holding-value : (k : Carried) (mutex : Mutex) → monitor_value W (changed S (holding k mutex)) m ≡ record (monitor_value W S m) { owner = mutex.owner; number = mutex.number }
  holding-value k mutex = λ i. record {
    owner = (put_at-same S.mutex m mutex i).owner;
    number = (put_at-same S.mutex m mutex i).number;
    waiters = line-same W Z S s u acts (Waiting m) tt [] k (record no_change { mutexes = (m, mutex) ∷ [] }) tt tt i;
    conds = conditions-stay [] k (record no_change { mutexes = (m, mutex) ∷ [] }) (λ x ne. (tt, tt)) i;
  }
