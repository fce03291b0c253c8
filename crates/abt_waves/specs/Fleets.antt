-- The streams and objects of a workload between waves, and what a wave makes of them.
use Rattle.std.specs.Prelude.{ℕ, ◌≡◌, ◌≤◌, ◌++◌, Bool, false, List, [], Some, slice_get}
use Rattle.abt_machine.specs.declared.events.Site.{Site}
use Rattle.abt_machine.specs.Stored.{Stored}
use Rattle.abt_machine.specs.declared.workload.Parts.{Parts}
use Rattle.abt_machine.specs.Rounds.{OrdersStored}
use Rattle.abt_machine.specs.Valid.{IsValid}
use Rattle.abt_interleave.specs.Histories.{RisesAbove, entry_stamps, last_from, last_stamp}
use Rattle.abt_interleave.specs.Deeds.{deed_stamps}
use Rattle.abt_interleave.specs.Machines.{Gathered}
use Rattle.abt_interleave.specs.Stamps.{AllTimed}
use Rattle.abt_interleave.specs.Ticking.{IsClock}
use Rattle.abt_simulation.specs.Journals.{events_of}
use Rattle.abt_simulation.specs.Merging.{SiteEntry, StreamDeed, machine_of}
use Rattle.abt_commons.specs.Held.{ObjectsValue}
use Rattle.abt_stream.specs.Streams.{FitsShapes, StreamValue}
use Rattle.abt_drain.specs.Crews.{moment_of}
use Rattle.abt_drain.specs.Looks.{AreStreams}
use Rattle.abt_drain.specs.Moments.{HasCome, IsReachedMoment, Moment}
use Rattle.abt_waves.specs.Locks.{TellsSites}

-- the streams of a valid W with these stored orders, which may make n steps each, and the objects that they share, at a moment that
-- they have reached from the start
pub record IsFleet (W : Parts) (Z : Stored) (n : ℕ) (objects : ObjectsValue) (streams : List StreamValue) : Type 0 where
  pub valid : IsValid W
  pub stored : OrdersStored W Z.orders
  pub workload : objects.workload ≡ W
  pub streams_are : AreStreams W n streams
  pub shapes : (s : ℕ) (stream : StreamValue) → slice_get streams s ≡ Some stream → FitsShapes W Z stream
  pub reached : IsReachedMoment W Z n (moment_of W streams objects)

-- a wave leads from one moment to the other: what each stream did in it, and what each site was asked. Stamps rise from the clocks
-- before it. A stream that is not live did nothing.
pub record IsWave (W : Parts) (Z : Stored) (live : List Bool) (old new : Moment) : Type 0 where
  pub deeds : ℕ → List StreamDeed
  pub histories : Site → List SiteEntry
  pub gathered : Gathered (machine_of W Z) old.parts old.objects deeds histories new.parts new.objects
  pub still : (s : ℕ) → slice_get live s ≡ Some false → deeds s ≡ []
  pub logs : (s : ℕ) → new.logs s ≡ old.logs s ++ events_of deeds s
  pub climb : (s : ℕ) → RisesAbove (old.clocks s) (deed_stamps (deeds s))
  pub rise : (x : Site) → RisesAbove (old.times x) (entry_stamps (histories x))
  pub clocks : (s : ℕ) → new.clocks s ≡ last_from (old.clocks s) (deed_stamps (deeds s))

-- the same, if each site's clock becomes its last stamp
pub record MakesWave (W : Parts) (Z : Stored) (live : List Bool) (old new : Moment) : Type 0 where
  pub wave : IsWave W Z live old new
  pub times : (x : Site) → new.times x ≡ last_from (old.times x) (entry_stamps (wave.histories x))

-- The same over any locks: the lock of each site, and the clock that objects carry to each lock.
module _ {Lock : Type 0} (lock : Site → Lock) (clock : ObjectsValue → Lock → ℕ) where
  -- no site has a later stamp than its lock's clock, and each of these is 0 or the stamp of a deed. If each site has a lock of its own
  -- stamps are Lamport's, and its last one is its lock's clock.
  pub record HaveClocks (W : Parts) (Z : Stored) (deeds : ℕ → List StreamDeed) (histories : Site → List SiteEntry) (objects : ObjectsValue) : Type 0 where
    pub above : (x : Site) → last_stamp (entry_stamps (histories x)) ≤ clock objects (lock x)
    pub clocks : (l : Lock) → IsClock (machine_of W Z) deeds (clock objects l)
    pub timed : TellsSites lock → (s : ℕ) → AllTimed histories 0 (deeds s)
    pub times : TellsSites lock → (x : Site) → last_stamp (entry_stamps (histories x)) ≡ clock objects (lock x)

  pub record IsFleetOver (W : Parts) (Z : Stored) (n : ℕ) (objects : ObjectsValue) (streams : List StreamValue) : Type 0 where
    pub valid : IsValid W
    pub stored : OrdersStored W Z.orders
    pub workload : objects.workload ≡ W
    pub streams_are : AreStreams W n streams
    pub shapes : (s : ℕ) (stream : StreamValue) → slice_get streams s ≡ Some stream → FitsShapes W Z stream
    pub come : HasCome W Z n (moment_of W streams objects)
    pub have : HaveClocks W Z come.deeds come.histories objects

  -- the moment, with the clocks of locks for those of sites
  abbrev pub moment_over : Parts → List StreamValue → ObjectsValue → Moment
  moment_over W streams objects = record {
    parts = (moment_of W streams objects).parts;
    logs = (moment_of W streams objects).logs;
    clocks = (moment_of W streams objects).clocks;
    objects = (moment_of W streams objects).objects;
    times = λ x. clock objects (lock x);
  }

  pub record MakesWaveOver (W : Parts) (Z : Stored) (live : List Bool) (old new : Moment) : Type 0 where
    pub wave : IsWave W Z live old new
    pub times : TellsSites lock → (x : Site) → new.times x ≡ last_from (old.times x) (entry_stamps (wave.histories x))
