-- What streams and objects hold at a moment of a run, how an event changes it, and what is known of a moment that a run has reached.
use Rattle.std.specs.Prelude.{ℕ, suc, max, ◌≡◌, ◌≢◌, ◌<◌, ◌≤◌, ◌^◌, List, [], ◌∷◌, ◌++◌, length, Option, Some, None}
use Rattle.abt_machine.specs.declared.events.Event.{Event}
use Rattle.abt_machine.specs.declared.events.Site.{Site}
use Rattle.abt_machine.specs.declared.events.What.{What}
use Rattle.abt_machine.specs.Stored.{Stored}
use Rattle.abt_machine.specs.declared.workload.Parts.{Parts}
use Rattle.abt_machine.specs.Numbers.{stream_no}
use Rattle.abt_machine.specs.Gives.{SiteGives}
use Rattle.abt_machine.specs.Outcomes.{steps_in}
use Rattle.abt_machine.specs.Runs.{Run, last_state}
use Rattle.abt_machine.specs.Start.{start}
use Rattle.abt_machine.specs.Turns.{Heard, Steps}
use Rattle.abt_machine.specs.Values.{Held, Object, part_of, object_of}
use Rattle.abt_interleave.specs.Histories.{last_stamp, entry_stamps}
use Rattle.abt_interleave.specs.Deeds.{Answered, deed_stamps}
use Rattle.abt_interleave.specs.Machines.{Gathered}
use Rattle.abt_interleave.specs.Stamps.{AllTimed, LeavesNoGap}
use Rattle.abt_outcomes.specs.Values.{StandFor, HaveMade}
use Rattle.abt_simulation.specs.Journals.{events_of}
use Rattle.abt_simulation.specs.Merging.{StreamDeed, SiteEntry, machine_of}

-- of each stream what it holds, its log and its clock, and of each site its object and its clock
pub record Moment : Type 0 where
  pub parts : ℕ → Held
  pub logs : ℕ → List Event
  pub clocks : ℕ → ℕ
  pub objects : Site → Object
  pub times : Site → ℕ

-- how many steps each stream has made
abbrev pub made_at : Moment → ℕ → ℕ
made_at m s = steps_in (m.logs s)

-- Events.

-- the stamp of the next event of a stream with this clock: one more than the clock, or than the greater of it and the clock of the
-- site that is called
abbrev pub stamp_by : ℕ → (Site → ℕ) → Option Heard → ℕ
stamp_by clock times None = suc clock
stamp_by clock times (Some h) = suc (max clock (times h.0))

abbrev pub next_stamp : Moment → ℕ → Option Heard → ℕ
next_stamp m s heard = stamp_by (m.clocks s) m.times heard

-- the clock of the called site becomes the stamp
abbrev pub SetsClock : (Site → ℕ) → Option Heard → ℕ → (Site → ℕ) → Type 0
SetsClock old None stamp new = (x : Site) → new x ≡ old x
SetsClock old (Some h) stamp new = (new h.0 ≡ stamp) × ((x : Site) → h.0 ≢ x → new x ≡ old x)

-- the event of stream s that led to the moment
abbrev pub event_at : Moment → ℕ → What → Event
event_at m s w = record { stamp = m.clocks s; stream = stream_no s; what = w }

-- a stream has at the second moment what it had at the first
pub record Stays (old new : Moment) (s : ℕ) : Type 0 where
  pub part : new.parts s ≡ old.parts s
  pub log : new.logs s ≡ old.logs s
  pub clock : new.clocks s ≡ old.clocks s

-- an event of stream s leads from the first moment to the second
pub record Makes (W : Parts) (Z : Stored) (s : ℕ) (w : What) (old new : Moment) : Type 0 where
  pub heard : Option Heard
  pub declared : s < W.streams
  pub steps : Steps W Z s (old.parts s) w heard (new.parts s)
  pub answered : Answered SiteGives old.objects heard new.objects
  pub clock : new.clocks s ≡ next_stamp old s heard
  pub times : SetsClock old.times heard (new.clocks s) new.times
  pub log : new.logs s ≡ old.logs s ++ event_at new s w ∷ []
  pub others : (r : ℕ) → s ≢ r → Stays old new r

-- Runs.

-- the moment at which a run of W starts
pub record IsStart (W : Parts) (m : Moment) : Type 0 where
  pub parts : (s : ℕ) → s < W.streams → part_of W (start W) s ≡ m.parts s
  pub logs : (s : ℕ) → m.logs s ≡ []
  pub clocks : (s : ℕ) → m.clocks s ≡ 0
  pub objects : (x : Site) → object_of W (start W) x ≡ m.objects x
  pub times : (x : Site) → m.times x ≡ 0

-- the events lead to the moment
pub record LeadTo (W : Parts) (Z : Stored) (J : List Event) (m : Moment) : Type 0 where
  pub run : Run W Z J
  pub stand : StandFor W (last_state W J) m.parts m.objects
  pub made : HaveMade W J (made_at m)

-- streams that may make n steps have come to the moment: what they did, and what the objects were asked, leads there from the start
pub record IsReachedMoment (W : Parts) (Z : Stored) (n : ℕ) (m : Moment) : Type 0 where
  pub deeds : ℕ → List StreamDeed
  pub histories : Site → List SiteEntry
  pub gathered : Gathered (machine_of W Z) (part_of W (start W)) (object_of W (start W)) deeds histories m.parts m.objects
  pub timed : (s : ℕ) → AllTimed histories 0 (deeds s)
  pub logs : (s : ℕ) → events_of deeds s ≡ m.logs s
  pub clocks : (s : ℕ) → last_stamp (deed_stamps (deeds s)) ≡ m.clocks s
  pub times : (x : Site) → last_stamp (entry_stamps (histories x)) ≡ m.times x
  pub few : (s : ℕ) → length (m.logs s) ≤ 2 ^ 55
  pub within : (s : ℕ) → made_at m s ≤ n

-- the same, whatever clocks the objects' stamps went by: no more is known of stamps than that they leave no gap
pub record HasCome (W : Parts) (Z : Stored) (n : ℕ) (m : Moment) : Type 0 where
  pub deeds : ℕ → List StreamDeed
  pub histories : Site → List SiteEntry
  pub gathered : Gathered (machine_of W Z) (part_of W (start W)) (object_of W (start W)) deeds histories m.parts m.objects
  pub no_gap : LeavesNoGap deeds
  pub logs : (s : ℕ) → events_of deeds s ≡ m.logs s
  pub clocks : (s : ℕ) → last_stamp (deed_stamps (deeds s)) ≡ m.clocks s
  pub few : (s : ℕ) → length (m.logs s) ≤ 2 ^ 55
  pub within : (s : ℕ) → made_at m s ≤ n
