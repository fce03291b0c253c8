-- The journal of all logs: that it exists, and what is counted in it.
use Rattle.std.specs.Prelude.{ℕ, ◌≡◌, ◌<◌, ◌^◌, ◌↔◌, List, map, length}
use Rattle.abt_machine.specs.declared.events.Event.{Event}
use Rattle.abt_machine.specs.declared.events.Site.{Site}
use Rattle.abt_machine.specs.Stored.{Stored}
use Rattle.abt_machine.specs.declared.workload.Parts.{Parts}
use Rattle.abt_machine.specs.Valid.{IsValid}
use Rattle.abt_machine.specs.Outcomes.{steps_in, steps_of}
use Rattle.abt_machine.specs.Values.{Held, Object}
use Rattle.abt_interleave.specs.Machines.{Gathered}
use Rattle.abt_interleave.specs.Stamps.{LeavesNoGap}
use Rattle.abt_interleave.specs.Merges.{IsMergeOf, sum_below}
use Rattle.abt_interleave.specs.Bounds.{NoneWorn}
use Rattle.abt_simulation.specs.Merging.{machine_of, StreamDeed, SiteEntry, event_of, IsJournalOf}

-- the events of each log
abbrev pub events_of : (ℕ → List StreamDeed) → ℕ → List Event
events_of logs s = map event_of (logs s)

-- J is the one list of these logs of events, by stamp and then by stream
abbrev pub MergesTo : (ℕ → List Event) → List Event → Type 0
MergesTo logs J = IsMergeOf (λ e. e.stamp) (λ e. e.stream.0) logs J

-- Each law speaks of logs and histories that are gathered.
abbrev pub OfGathered : Parts → Stored → ((ℕ → List StreamDeed) → (Site → List SiteEntry) → Type 0) → Type 0
OfGathered W Z Law = (parts : ℕ → Held) (objects : Site → Object) (logs : ℕ → List StreamDeed) (histories : Site → List SiteEntry) (ends : ℕ → Held) (finals : Site → Object) →
    Gathered (machine_of W Z) parts objects logs histories ends finals → Law logs histories

-- the journal is what the events of the logs merge to
abbrev pub JournalsAreMerges : Parts → Stored → Type 0
JournalsAreMerges W Z = OfGathered W Z (λ logs histories. (J : List Event) → IsJournalOf logs J ↔ MergesTo (events_of logs) J)

-- there is exactly one journal
abbrev pub JournalsExist : Parts → Stored → Type 0
JournalsExist W Z = OfGathered W Z (λ logs histories. (J : List Event) × IsJournalOf logs J × ((K : List Event) → IsJournalOf logs K → K ≡ J))

-- steps and events of the journal are counted in the logs
pub record JournalCounts (W : Parts) (logs : ℕ → List StreamDeed) (J : List Event) : Type 0 where
  pub own_steps : (s : ℕ) → steps_of s J ≡ steps_in (events_of logs s)
  pub all_steps : steps_in J ≡ sum_below W.streams (λ s. steps_in (events_of logs s))
  pub all_events : length J ≡ sum_below W.streams (λ s. length (logs s))

abbrev pub JournalsCount : Parts → Stored → Type 0
JournalsCount W Z = OfGathered W Z (λ logs histories. (J : List Event) → IsJournalOf logs J → JournalCounts W logs J)

-- if stamps leave no gap and each log is shorter than 2^55, no clock of a valid workload's streams and objects is worn
abbrev pub NothingIsWorn : Parts → Stored → Type 0
NothingIsWorn W Z = IsValid W → OfGathered W Z (λ logs histories. LeavesNoGap logs → ((s : ℕ) → length (logs s) < 2 ^ 55) → NoneWorn (machine_of W Z) logs histories)
