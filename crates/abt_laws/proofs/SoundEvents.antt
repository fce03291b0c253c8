-- What the events that are no steps have in common: they change places, homes, desks, a pool's next ticket and a stream at most.
use Rattle.std.proofs.Common.{ℕ, ◌≤◌, List, [], ◌∷◌, refl}
use Rattle.abt_machine.specs.declared.events.Place.{Place}
use Rattle.abt_machine.specs.declared.events.Place.TheVariants as place
use Rattle.abt_machine.specs.Stored.{Stored}
use Rattle.abt_machine.specs.declared.workload.Parts.{Parts}
use Rattle.abt_machine.specs.Numbers.{stream_no}
use Rattle.abt_machine.specs.State.{State, Stream, Carried, Desk, Mark}
use Rattle.abt_machine.specs.Frames.{marked}
use Rattle.abt_machine.specs.Changes.{Change, changed, no_change}
use Rattle.abt_machine.specs.Events.{without_requests}
use Rattle.abt_machine.specs.Sound.{Sound}
use Rattle.abt_laws.proofs.Lists.{EachOf}
use Rattle.abt_laws.proofs.Arrivals.{AllFree}
use Rattle.abt_laws.proofs.SoundChanges.{Keeps, MovesWell, CarriesWell, AsksWell, FramesKeep}
use Rattle.abt_laws.proofs.Barriers.{IsOffBarriers, barriers-stay}
use Rattle.abt_laws.proofs.Locks.{MovesOffLocks, locks-stay}

-- unit u comes to the hand of stream s, with this mark
abbrev pub handed : State → ℕ → ℕ → Mark → Change
handed S s u m = record no_change { moves = (u, place.Hand (stream_no s)) ∷ []; desks = (u, without_requests (S.desk u)) ∷ []; streams = (s, marked m (S.stream s)) ∷ [] }

pub keeps-event : (W : Parts) (Z : Stored) (S : State) → Sound W Z S →
    (ms : List (ℕ × Place)) (cs : List (ℕ × Carried)) (ds : List (ℕ × Desk)) (ps : List (ℕ × ℕ)) (ss : List (ℕ × Stream)) →
    let c : Change = record no_change { moves = ms; carried = cs; desks = ds; pool_next = ps; streams = ss } in
    AllFree S.place ms →
    EachOf (λ (m : ℕ × Place). MovesWell W S c m.0 m.1) ms →
    EachOf (λ (m : ℕ × Place). IsOffBarriers W m.1) ms →
    EachOf (MovesOffLocks W S) ms →
    EachOf (λ (m : ℕ × Carried). CarriesWell W m.0 m.1) cs →
    EachOf (λ (m : ℕ × Desk). AsksWell W S m.0 m.1) ds →
    EachOf (λ (m : ℕ × ℕ). S.pool_next m.0 ≤ m.1) ps →
    FramesKeep W Z S (changed S c) →
    Keeps W Z S c
keeps-event W Z S sound ms cs ds ps ss free well off off_locks carried desks pools frames =
    let c : Change = record no_change { moves = ms; carried = cs; desks = ds; pool_next = ps; streams = ss } in
    record {
      free = free;
      moves = well;
      barriers = barriers-stay W Z S sound c off;
      carried = carried;
      desks = desks;
      pool_next = pools;
      join_next = tt;
      object_next = tt;
      mutexes = tt;
      eventuals = tt;
      futures = tt;
      rwlocks = tt;
      locks = locks-stay W Z S c sound refl off_locks;
      frames = frames;
    }
