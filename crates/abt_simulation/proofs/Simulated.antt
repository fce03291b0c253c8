-- What an event owes, and that a stream's next event is decided by its own part.
use Rattle.std.proofs.Common.{◌≡◌, ℕ, ◌<◌, Option, Some, None, refl, sym, ◌∙◌, subst}
use Rattle.abt_machine.specs.declared.events.Event.{Event}
use Rattle.abt_machine.specs.declared.events.Site.{Site}
use Rattle.abt_machine.specs.declared.events.What.{What}
use Rattle.abt_machine.specs.Stored.{Stored}
use Rattle.abt_machine.specs.declared.workload.Parts.{Parts}
use Rattle.abt_machine.specs.Valid.{IsValid}
use Rattle.abt_machine.specs.State.{State}
use Rattle.abt_machine.specs.EventSites.{event_site}
use Rattle.abt_machine.specs.Events.{May, change, after}
use Rattle.abt_machine.specs.Values.{Held, Object, part_of, object_of}
use Rattle.abt_machine.specs.Acts.{Act, Answer}
use Rattle.abt_machine.specs.Gives.{SiteGives}
use Rattle.abt_machine.specs.Turns.{Heard}
use Rattle.abt_laws.proofs.LocalEvents.{event-local}
use Rattle.abt_laws.proofs.Local.{IsLocal}
use Rattle.abt_simulation.specs.Simulation.{site_heard, CalledAnswers, LeavesObject, IsEventFrom}
use Rattle.abt_simulation.proofs.Others.{parts-stay, objects-stay}

-- Events.

-- an event may come, and leaves this part of its stream and, if it called one, this object
pub record Simulated (W : Parts) (Z : Stored) (S : State) (s : ℕ) (w : What) (heard : Option Heard) (part : Held) (object : Object) : Type 0 where
  pub may : May W Z S s w
  pub own : part_of W (after W S s w) s ≡ part
  pub called : LeavesObject W (after W S s w) heard object

-- the event of a call that was heard so
pub with-call : (W : Parts) (Z : Stored) (S : State) (s : ℕ) (w : What) (heard : Option Heard) (part p : Held) (object : Object) (x : Site) (asked : Act) (b : Answer) → heard ≡ Some
    (x, asked, b) → part ≡ p → CalledAnswers W S heard object →
    (SiteGives (object_of W S x) asked b object → Simulated W Z S s w (Some (x, asked, b)) p object) → Simulated W Z S s w heard part object
with-call W Z S s w heard part p object x asked b e f answers go =
    subst (λ (q : Option Heard × Held). Simulated W Z S s w q.0 q.1 object) (λ i. (sym e i, sym f i)) (go (subst (λ h. CalledAnswers W S h object) e answers))

-- an event without a call
pub without-call : (W : Parts) (Z : Stored) (S : State) (s : ℕ) (w : What) (heard : Option Heard) (part p : Held) (object : Object) → heard ≡ None → part ≡ p →
    Simulated W Z S s w None p object → Simulated W Z S s w heard part object
without-call W Z S s w heard part p object e f done = subst (λ (q : Option Heard × Held). Simulated W Z S s w q.0 q.1 object) (λ i. (sym e i, sym f i)) done

-- what an event owes is all: the rest stays since the change is local
pub is-event : (W : Parts) (Z : Stored) (S : State) (e : Event) (heard : Option Heard) (part : Held) (object : Object) → IsValid W → e.stream.0 < W.streams → site_heard heard ≡ event_site W e →
    Simulated W Z S e.stream.0 e.what heard part object → IsEventFrom W Z S e heard part object (after W S e.stream.0 e.what)
is-event W Z S e heard part object valid declared site done =
    let local : IsLocal W S e.stream.0 (event_site W e) (change W S e.stream.0 e.what) = event-local W valid Z S e.stream.0 e.what done.may in
    record {
      comes = (declared, done.may, refl);
      site = site;
      own = done.own;
      called = done.called;
      other_parts = parts-stay W S e.stream.0 (event_site W e) (change W S e.stream.0 e.what) local;
      other_objects = λ x ne. objects-stay W S e.stream.0 (event_site W e) (change W S e.stream.0 e.what) local x (λ at. ne (site ∙ at));
    }
