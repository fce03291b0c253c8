-- How the logs of all streams and the histories of all objects merge into one run.
use Rattle.std.specs.Prelude.{ℕ, ◌≡◌, ◌<◌, ◌==◌, Bool, false, List}
use Rattle.abt_machine.specs.declared.events.Event.{Event}
use Rattle.abt_machine.specs.declared.events.Site.{Site}
use Rattle.abt_machine.specs.declared.events.Site.TheVariants as site
use Rattle.abt_machine.specs.declared.events.What.{What}
use Rattle.abt_machine.specs.Stored.{Stored}
use Rattle.abt_machine.specs.declared.workload.Parts.{Parts}
use Rattle.abt_machine.specs.Numbers.{stream_no}
use Rattle.abt_machine.specs.Valid.{IsValid}
use Rattle.abt_machine.specs.Rounds.{OrdersStored}
use Rattle.abt_machine.specs.State.{State}
use Rattle.abt_machine.specs.Events.{May, after}
use Rattle.abt_machine.specs.Runs.{RunFrom, state_after}
use Rattle.abt_machine.specs.Sound.{Sound}
use Rattle.abt_machine.specs.Stamps.{Stamped, Lamport}
use Rattle.abt_machine.specs.Values.{Held, Object, part_of, object_of}
use Rattle.abt_machine.specs.Acts.{Act, Answer}
use Rattle.abt_machine.specs.Gives.{SiteGives}
use Rattle.abt_machine.specs.Turns.{Steps}
use Rattle.abt_interleave.specs.declared.entries.Entry.{Entry}
use Rattle.abt_interleave.specs.Deeds.{Deed}
use Rattle.abt_interleave.specs.Logs.{IsSortedAs}
use Rattle.abt_interleave.specs.Machines.{Machine, IsSimulated, Gathered}
use Rattle.abt_interleave.specs.Stamps.{LeavesNoGap, AllTimed}

-- The machine, as merging sees it.

-- whether two sites are one
abbrev pub same_site : Site → Site → Bool
same_site (site.Pool p) (site.Pool q) = p.0 == q.0
same_site (site.Desk u) (site.Desk v) = u.0 == v.0
same_site (site.Monitor x) (site.Monitor y) = x.0 == y.0
same_site (site.Eventual x) (site.Eventual y) = x.0 == y.0
same_site (site.Future x) (site.Future y) = x.0 == y.0
same_site (site.Barrier x) (site.Barrier y) = x.0 == y.0
same_site (site.Rw x) (site.Rw y) = x.0 == y.0
same_site x y = false

-- a state's parts are those of its streams, and its objects stand at sites
abbrev pub machine_of : Parts → Stored → Machine
machine_of W Z = record {
  State = State;
  Part = Held;
  Object = Object;
  Place = Site;
  Act = Act;
  Answer = Answer;
  What = What;
  streams = W.streams;
  same = same_site;
  part_of = part_of W;
  object_of = object_of W;
  Steps = Steps W Z;
  Gives = SiteGives;
  May = May W Z;
  after = after W;
  Sound = Sound W Z;
}

-- a step of a stream, with the answer of the object that it called, is an event
abbrev pub StepsAreEvents : Parts → Stored → Type 0
StepsAreEvents W Z = IsValid W → OrdersStored W Z.orders → IsSimulated (machine_of W Z)

-- Logs and histories.

-- what a stream did, with the call that it made and what it was answered
abbrev pub StreamDeed : Type 0
StreamDeed = Deed Site Act Answer What

-- what an object was asked, and what it answered
abbrev pub SiteEntry : Type 0
SiteEntry = Entry Act Answer

-- the event of a deed
abbrev pub event_of : StreamDeed → Event
event_of d = record { stamp = d.stamp; stream = stream_no d.stream; what = d.what }

-- J is the list of the events of all logs, sorted by stamp and then by stream
abbrev pub IsJournalOf : (ℕ → List StreamDeed) → List Event → Type 0
IsJournalOf logs J = IsSortedAs event_of (λ e. e.stamp) (λ e. e.stream.0) logs J

-- from state S these events are a run, which ends in a sound state with these parts of streams and these objects
pub record LeadsTo (W : Parts) (Z : Stored) (S : State) (J : List Event) (ends : ℕ → Held) (finals : Site → Object) : Type 0 where
  pub run : RunFrom W Z S J
  pub sound : Sound W Z (state_after W S J)
  pub parts : (s : ℕ) → s < W.streams → part_of W (state_after W S J) s ≡ ends s
  pub objects : (x : Site) → object_of W (state_after W S J) x ≡ finals x

-- from a sound state, if each stream's log is a course of the stream with the answers that it heard, each object's history
-- is legal, and each call in a log is exactly one entry of the called object's history, all logs merge into one run, and it
-- leads to the state that the ends of logs and histories make up
abbrev pub Merging : Parts → Stored → Type 0
Merging W Z = IsValid W → OrdersStored W Z.orders → (S : State) → Sound W Z S →
    (logs : ℕ → List StreamDeed) (histories : Site → List SiteEntry) (ends : ℕ → Held) (finals : Site → Object) (J : List Event) →
    Gathered (machine_of W Z) (part_of W S) (object_of W S) logs histories ends finals → IsJournalOf logs J → LeadsTo W Z S J ends finals

-- if stamps leave no gap, the merged journal is stamped
abbrev pub MergedIsStamped : Parts → Stored → Type 0
MergedIsStamped W Z = (parts : ℕ → Held) (objects : Site → Object) (logs : ℕ → List StreamDeed) (histories : Site → List SiteEntry) (ends : ℕ → Held) (finals : Site → Object) (J : List Event) →
    Gathered (machine_of W Z) parts objects logs histories ends finals → LeavesNoGap logs → IsJournalOf logs J → Stamped W J

-- if each stamp is one more than the greater of its stream's last and its object's last, the merged journal has
-- Lamport's stamps
abbrev pub MergedIsLamport : Parts → Stored → Type 0
MergedIsLamport W Z = (parts : ℕ → Held) (objects : Site → Object) (logs : ℕ → List StreamDeed) (histories : Site → List SiteEntry) (ends : ℕ → Held) (finals : Site → Object) (J : List Event) →
    Gathered (machine_of W Z) parts objects logs histories ends finals → ((s : ℕ) → AllTimed histories 0 (logs s)) → IsJournalOf logs J → Lamport W J
