-- A run on lives between two waves.
use Rattle.std.specs.Prelude.{ℕ, ◌≡◌, ◌≤◌, true, List, [], ◌∷◌, Some, All, Contains, ⊤}
use Rattle.abt_machine.specs.declared.events.Event.{Event}
use Rattle.abt_machine.specs.declared.events.Site.{Site}
use Rattle.abt_machine.specs.Stored.{Stored}
use Rattle.abt_machine.specs.declared.workload.Parts.{Parts}
use Rattle.abt_machine.specs.EventSites.{event_site}
use Rattle.abt_machine.specs.Stamps.{AllAfter}
use Rattle.abt_machine.specs.Start.{start}
use Rattle.abt_commons.specs.Held.{ObjectsValue}
use Rattle.abt_stream.specs.Streams.{StreamValue}
use Rattle.abt_drain.specs.Crews.{AllKeep, moment_of}
use Rattle.abt_drain.specs.Moments.{LeadTo, Moment}
use Rattle.abt_waves.specs.Fleets.{IsFleet}
use Rattle.abt_streams.specs.declared.life.Life.{Life}
use Rattle.abt_streams.specs.declared.wave.Wave.{Wave}
use Rattle.abt_streams.specs.Waves.{AreWaves}

-- no clock of the moment is below the event's stamp if it is of the clock's stream or object
pub record IsBelow (W : Parts) (m : Moment) (e : Event) : Type 0 where
  pub stream : e.stamp ≤ m.clocks e.stream.0
  pub site : (x : Site) → event_site W e ≡ Some x → e.stamp ≤ m.times x

-- of events that share a stream or an object the later one has the greater stamp
abbrev pub RiseWhereShared : Parts → List Event → Type 0
RiseWhereShared W [] = ⊤
RiseWhereShared W (e ∷ es) = AllAfter W e es × RiseWhereShared W es

-- the events of the journal are those of all logs
pub record HasLogs (m : Moment) (J : List Event) : Type 0 where
  pub all : (s : ℕ) (e : Event) → Contains (m.logs s) e → Contains J e
  pub only : (e : Event) → Contains J e → Contains (m.logs e.stream.0) e

-- the journal, in these waves, has led to these objects and streams, which keep their events in memory
pub record HasLedTo (W : Parts) (Z : Stored) (n : ℕ) (lives : List Life) (objects : ObjectsValue) (streams : List StreamValue) (J : List Event) (waves : List Wave) : Type 0 where
  pub fleet : IsFleet W Z n objects streams
  pub lead : LeadTo W Z J (moment_of W streams objects)
  pub below : All (IsBelow W (moment_of W streams objects)) J
  pub rise : RiseWhereShared W J
  pub has_logs : HasLogs (moment_of W streams objects) J
  pub waves_are : AreWaves W lives (start W) 0 waves J
  pub kept : AllKeep true streams
