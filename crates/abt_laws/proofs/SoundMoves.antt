-- A step at which units move, none to a barrier, and none to or from a reader-writer lock. Unit u, in the hand of stream s, makes the step.
use Rattle.std.proofs.Common.{ℕ, ◌≤◌, List, refl}
use Rattle.abt_machine.specs.declared.events.Place.{Place}
use Rattle.abt_machine.specs.Stored.{Stored}
use Rattle.abt_machine.specs.declared.workload.Parts.{Parts}
use Rattle.abt_machine.specs.State.{State, Mutex}
use Rattle.abt_machine.specs.Changes.{Change, goes_on}
use Rattle.abt_laws.proofs.Lists.{EachOf}
use Rattle.abt_laws.proofs.Arrivals.{AllFree}
use Rattle.abt_laws.proofs.SoundChanges.{Keeps, places, MovesWell, MutexHolds}
use Rattle.abt_laws.proofs.Barriers.{IsOffBarriers, barriers-stay}
use Rattle.abt_laws.proofs.Locks.{MovesOffLocks, locks-stay}
use Rattle.abt_laws.proofs.SoundFrames.{IsFrameless, frames-stay}
use Rattle.abt_laws.proofs.SoundSteps.{IsStepping, carries-on}

module _ (W : Parts) (Z : Stored) (S : State) (s u : ℕ) (step : IsStepping W Z S s u) where
  -- u goes on, and units that are in no frame move, none to a barrier, and none to or from a reader-writer lock
  pub keeps-moves : (ms : List (ℕ × Place)) (js os : List (ℕ × ℕ)) (xs : List (ℕ × Mutex)) →
      let c : Change = record (goes_on S u) { moves = ms; join_next = js; object_next = os; mutexes = xs } in
      AllFree S.place ms →
      EachOf (λ (m : ℕ × Place). MovesWell W S c m.0 m.1) ms →
      EachOf (λ (m : ℕ × Place). IsOffBarriers W m.1) ms →
      EachOf (MovesOffLocks W S) ms →
      EachOf (λ (m : ℕ × Place). IsFrameless S m.0) ms →
      EachOf (λ (m : ℕ × ℕ). S.join_next m.0 ≤ m.1) js →
      EachOf (λ (m : ℕ × ℕ). S.object_next m.0 ≤ m.1) os →
      EachOf (λ (m : ℕ × Mutex). MutexHolds (places S c) m.0 m.1) xs →
      Keeps W Z S c
  keeps-moves ms js os xs free well off off_locks frameless joins objects mutexes =
      let c : Change = record (goes_on S u) { moves = ms; join_next = js; object_next = os; mutexes = xs } in
      record {
        free = free;
        moves = well;
        barriers = barriers-stay W Z S step.sound c off;
        carried = (carries-on W Z S s u step, tt);
        desks = tt;
        pool_next = tt;
        join_next = joins;
        object_next = objects;
        mutexes = mutexes;
        eventuals = tt;
        futures = tt;
        rwlocks = tt;
        locks = locks-stay W Z S c step.sound refl off_locks;
        frames = frames-stay W Z S c step.sound frameless tt;
      }
