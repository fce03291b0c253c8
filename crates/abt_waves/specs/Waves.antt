-- What a wave leaves, and how waves end.
use Rattle.std.specs.Prelude.{ℕ, ◌≡◌, List, map}
use Rattle.abt_machine.specs.declared.events.Outcome.{Outcome}
use Rattle.abt_machine.specs.declared.events.Site.{Site}
use Rattle.abt_machine.specs.Stored.{Stored}
use Rattle.abt_machine.specs.declared.workload.Parts.{Parts}
use Rattle.abt_commons.specs.Held.{ObjectsValue}
use Rattle.abt_outcomes.specs.Values.{LooksAs}
use Rattle.abt_stream.specs.Streams.{StreamValue}
use Rattle.abt_drain.specs.Crews.{AllKeep, CrewValue, moment_of}
use Rattle.abt_drain.specs.Moments.{made_at}
use Rattle.abt_waves.specs.declared.voyages.Returned.{Returned}
use Rattle.abt_waves.specs.declared.voyages.Stop.{Stop}
use Rattle.abt_waves.specs.Fleets.{IsFleetOver}
use Rattle.abt_waves.specs.Leaving.{BeginsRounds}

module _ {Pass : Type 0} where
  abbrev pub stream_in : Returned Pass → StreamValue
  stream_in back = back.stream

  abbrev pub pass_in : Returned Pass → Pass
  pass_in back = back.pass

  abbrev pub stop_in : Returned Pass → Stop
  stop_in back = back.stop

  -- these are the streams, these their passes, and so each stopped
  pub record AreBack (returned : List (Returned Pass)) (streams : List StreamValue) (passes : List Pass) (stops : List Stop) : Type 0 where
    pub streams_are : streams ≡ map stream_in returned
    pub passes_are : passes ≡ map pass_in returned
    pub stops_are : stops ≡ map stop_in returned

-- these are streams of W, which may make n steps each, with the objects that they share over these locks, and no round has seen a pool
pub record IsFleetOf {Lock : Type 0} (lock : Site → Lock) (clock : ObjectsValue → Lock → ℕ) (W : Parts) (Z : Stored) (n : ℕ) (fleet : CrewValue) : Type 0 where
  pub workload : fleet.workload ≡ W
  pub steps : fleet.steps ≡ n
  pub kept : AllKeep fleet.keeps fleet.streams
  pub fleet_is : IsFleetOver lock clock W Z n fleet.objects fleet.streams
  pub fresh : BeginsRounds W (moment_of W fleet.streams fleet.objects)

-- the last wave ended the run so
pub record HasEnded {Lock : Type 0} (lock : Site → Lock) (clock : ObjectsValue → Lock → ℕ) (W : Parts) (Z : Stored) (n : ℕ) (fleet : CrewValue) (o : Outcome) : Type 0 where
  pub fleet_is : IsFleetOf lock clock W Z n fleet
  pub looks : LooksAs W n (moment_of W fleet.streams fleet.objects).parts (moment_of W fleet.streams fleet.objects).objects (made_at (moment_of W fleet.streams fleet.objects)) o
