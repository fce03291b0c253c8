-- What a stream does in a wave, by what its pass sees.
use Rattle.std.specs.Prelude.{max, ◌≡◌, ◌≤◌, ◌^◌, ◌⊎◌, ◌++◌, List, length, map}
use Rattle.abt_machine.specs.declared.events.Site.{Site}
use Rattle.abt_machine.specs.Stored.{Stored}
use Rattle.abt_machine.specs.declared.workload.Parts.{Parts}
use Rattle.abt_machine.specs.Outcomes.{steps_in}
use Rattle.abt_interleave.specs.Histories.{entry_stamps, last_from, last_stamp}
use Rattle.abt_interleave.specs.Deeds.{deed_stamps}
use Rattle.abt_interleave.specs.Lines.{Gone}
use Rattle.abt_simulation.specs.Merging.{StreamDeed, event_of, machine_of}
use Rattle.abt_stream.specs.Streams.{FitsShapes, FitsStream, StreamValue}
use Rattle.abt_waves.specs.Locks.{LocksValue}

-- a stream of W, with a pass of its own
pub record HasPass {Lock Pass : Type 0} (IsOf : Pass → Type 0) (locks : LocksValue Lock Pass) (W : Parts) (Z : Stored) (stream : StreamValue) (pass : Pass) : Type 0 where
  pub fits : FitsStream W stream
  pub shapes : FitsShapes W Z stream
  pub few : length stream.log ≤ 2 ^ 55
  pub within : steps_in stream.log ≤ stream.budget
  pub own : IsOf pass
  pub number : locks.number pass ≡ stream.number.0

module _ {Lock Pass : Type 0} (locks : LocksValue Lock Pass) (lock : Site → Lock) where
  -- since the wave began a stream has done this, its pass sees the calls, and its log has the events behind those that it had
  pub record HasGone (W : Parts) (Z : Stored) (first stream : StreamValue) (pass : Pass) : Type 0 where
    pub deeds : List StreamDeed
    pub gone : Gone (machine_of W Z) lock locks.carried first.number.0 first.clock first.held deeds stream.held (locks.sights pass)
    pub log : stream.log ≡ first.log ++ map event_of deeds
    pub clock : stream.clock ≡ last_from first.clock (deed_stamps deeds)
    pub number : stream.number ≡ first.number
    pub budget : stream.budget ≡ first.budget
    pub keeps : stream.keeps ≡ first.keeps

  -- a clock is at its end: the stream's own, or that of a site's lock that it sees
  abbrev pub IsWorn : StreamValue → Pass → Type 0
  IsWorn stream pass =
      (stream.clock ≡ 2 ^ 62) ⊎ ((x : Site) × (max (max stream.clock (locks.carried (lock x))) (last_stamp (entry_stamps (locks.sights pass (lock x)))) ≡ 2 ^ 62))
