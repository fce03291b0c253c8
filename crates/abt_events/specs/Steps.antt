-- An event of the machine as a step of a stream with at most one call: no event does more. The simulation states the converse.
use Rattle.std.specs.Prelude.{◌≡◌, ◌≢◌, ℕ, Option, Some, None}
use Rattle.abt_machine.specs.declared.events.Event.{Event}
use Rattle.abt_machine.specs.declared.events.Site.{Site}
use Rattle.abt_machine.specs.Stored.{Stored}
use Rattle.abt_machine.specs.declared.workload.Parts.{Parts}
use Rattle.abt_machine.specs.Valid.{IsValid}
use Rattle.abt_machine.specs.Rounds.{OrdersStored}
use Rattle.abt_machine.specs.EventSites.{event_site}
use Rattle.abt_machine.specs.State.{State}
use Rattle.abt_machine.specs.Events.{After}
use Rattle.abt_machine.specs.Sound.{Sound}
use Rattle.abt_machine.specs.Values.{part_of, object_of}
use Rattle.abt_machine.specs.Acts.{Act, Answer}
use Rattle.abt_machine.specs.Gives.{SiteGives}
use Rattle.abt_machine.specs.Turns.{Heard, Steps}
use Rattle.abt_simulation.specs.Simulation.{site_heard}

-- the object that was called, if one was, is that of state S, answered as its meaning says, and is that of state T afterwards
abbrev pub AnswersFrom : Parts → State → State → Option Heard → Type 0
AnswersFrom W S T None = Unit {0}
AnswersFrom W S T (Some h) = SiteGives (object_of W S h.0) h.1 h.2 (object_of W T h.0)

-- from S to T the event's stream makes a step, with the answer of the object at the event's site if it has one; all else stays
pub record IsStep (W : Parts) (Z : Stored) (S : State) (e : Event) (T : State) : Type 0 where
  pub heard : Option Heard
  pub site : site_heard heard ≡ event_site W e
  pub steps : Steps W Z e.stream.0 (part_of W S e.stream.0) e.what heard (part_of W T e.stream.0)
  pub answers : AnswersFrom W S T heard
  pub other_parts : (s : ℕ) → s ≢ e.stream.0 → part_of W T s ≡ part_of W S s
  pub other_objects : (x : Site) → event_site W e ≢ Some x → object_of W T x ≡ object_of W S x

-- each event that may come in a sound state is a step
abbrev pub EventsAreSteps : Parts → Stored → Type 0
EventsAreSteps W Z = IsValid W → OrdersStored W Z.orders → (S T : State) (e : Event) → Sound W Z S → After W Z S e T → IsStep W Z S e T

-- one that names a site calls the object there, which answers
abbrev pub NamedSitesAreCalled : Parts → Stored → Type 0
NamedSitesAreCalled W Z = IsValid W → OrdersStored W Z.orders → (S T : State) (e : Event) (x : Site) → Sound W Z S → After W Z S e T → event_site W e ≡ Some x →
    (act : Act) × (answer : Answer) × Steps W Z e.stream.0 (part_of W S e.stream.0) e.what (Some (x, act, answer)) (part_of W T e.stream.0)
    × SiteGives (object_of W S x) act answer (object_of W T x)

-- one that names no site makes no call
abbrev pub OthersCallNothing : Parts → Stored → Type 0
OthersCallNothing W Z = IsValid W → OrdersStored W Z.orders → (S T : State) (e : Event) → Sound W Z S → After W Z S e T → event_site W e ≡ None →
    Steps W Z e.stream.0 (part_of W S e.stream.0) e.what None (part_of W T e.stream.0)
