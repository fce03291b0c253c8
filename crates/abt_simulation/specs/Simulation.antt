-- If parts of streams and objects are those of a state, a step of one stream with at most one call is an event of the machine.
use Rattle.std.specs.Prelude.{ℕ, ◌≡◌, ◌≢◌, ◌<◌, Option, Some, None}
use Rattle.abt_machine.specs.declared.events.Event.{Event}
use Rattle.abt_machine.specs.declared.events.Site.{Site}
use Rattle.abt_machine.specs.Stored.{Stored}
use Rattle.abt_machine.specs.declared.workload.Parts.{Parts}
use Rattle.abt_machine.specs.Valid.{IsValid}
use Rattle.abt_machine.specs.Rounds.{OrdersStored}
use Rattle.abt_machine.specs.EventSites.{event_site}
use Rattle.abt_machine.specs.State.{State}
use Rattle.abt_machine.specs.Events.{after, After}
use Rattle.abt_machine.specs.Sound.{Sound}
use Rattle.abt_machine.specs.Values.{Held, Object, part_of, object_of}
use Rattle.abt_machine.specs.Gives.{SiteGives}
use Rattle.abt_machine.specs.Turns.{Heard, Steps}

-- the site that a stream called, if it called one
abbrev pub site_heard : Option Heard → Option Site
site_heard None = None
site_heard (Some h) = Some h.0

-- the object of state S that was called, if one was, answered as its meaning says, and is this afterwards
abbrev pub CalledAnswers : Parts → State → Option Heard → Object → Type 0
CalledAnswers W S None object = Unit {0}
CalledAnswers W S (Some h) object = SiteGives (object_of W S h.0) h.1 h.2 object

-- the object of state T that was called, if one was, is this
abbrev pub LeavesObject : Parts → State → Option Heard → Object → Type 0
LeavesObject W T None object = Unit {0}
LeavesObject W T (Some h) object = object_of W T h.0 ≡ object

-- e is an event that leads from S to T: there its stream's part and the object that was called are these, and all other parts and objects are those of S
pub record IsEventFrom (W : Parts) (Z : Stored) (S : State) (e : Event) (heard : Option Heard) (part : Held) (object : Object) (T : State) : Type 0 where
  pub comes : After W Z S e T
  pub site : site_heard heard ≡ event_site W e
  pub own : part_of W T e.stream.0 ≡ part
  pub called : LeavesObject W T heard object
  pub other_parts : (s : ℕ) → s ≢ e.stream.0 → part_of W T s ≡ part_of W S s
  pub other_objects : (x : Site) → site_heard heard ≢ Some x → object_of W T x ≡ object_of W S x

-- from a sound state a step of a stream's part, with the answer of the object that it called, is an event
abbrev pub Simulation : Parts → Stored → Type 0
Simulation W Z = IsValid W → OrdersStored W Z.orders → (S : State) (e : Event) (heard : Option Heard) (part : Held) (object : Object) → Sound W Z S → e.stream.0 < W.streams →
    Steps W Z e.stream.0 (part_of W S e.stream.0) e.what heard part → CalledAnswers W S heard object → IsEventFrom W Z S e heard part object (after W S e.stream.0 e.what)
