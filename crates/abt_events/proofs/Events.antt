-- Each event is a step of its stream: what its stream does if it may come is the event itself, since there is one at each pool.
use Rattle.std.proofs.Common.{◌≡◌, ℕ, Option, Some, None, refl, sym, ◌∙◌, subst}
use Rattle.abt_machine.specs.declared.events.Event.{Event}
use Rattle.abt_machine.specs.declared.events.Site.{Site}
use Rattle.abt_machine.specs.declared.events.What.{What}
use Rattle.abt_machine.specs.Stored.{Stored}
use Rattle.abt_machine.specs.declared.workload.Parts.{Parts}
use Rattle.abt_machine.specs.State.{State}
use Rattle.abt_machine.specs.Events.{after}
use Rattle.abt_machine.specs.Values.{Held, Object, part_of, object_of}
use Rattle.abt_machine.specs.Acts.{Act, Answer}
use Rattle.abt_machine.specs.Gives.{SiteGives}
use Rattle.abt_machine.specs.Turns.{Heard, Steps}
use Rattle.abt_laws.proofs.Options.{none≢some, some-injective}
use Rattle.abt_simulation.specs.Simulation.{CalledAnswers, IsEventFrom, LeavesObject, site_heard}
use Rattle.abt_simulation.proofs.Events.{simulation}
use Rattle.abt_bounds.proofs.Choosing.{one-at-each-pool}
use Rattle.abt_events.specs.Steps.{AnswersFrom, EventsAreSteps, IsStep, NamedSitesAreCalled, OthersCallNothing}
use Rattle.abt_events.proofs.Doing.{Turn, turn}

-- the object that was called, as states S and T have it
answers-from : (W : Parts) (S T : State) (heard : Option Heard) (object : Object) → CalledAnswers W S heard object → LeavesObject W T heard object → AnswersFrom W S T heard
answers-from W S T None object answers leaves = tt
answers-from W S T (Some h) object answers leaves = subst (SiteGives (object_of W S h.0) h.1 h.2) (sym leaves) answers

-- a step that is an event
is-step : (W : Parts) (Z : Stored) (S : State) (e : Event) (heard : Option Heard) (part : Held) (object : Object) (T : State) → Steps W Z e.stream.0 (part_of W S e.stream.0) e.what heard part →
    CalledAnswers W S heard object →
    IsEventFrom W Z S e heard part object T → IsStep W Z S e T
is-step W Z S e heard part object T steps answers is = record {
  heard = heard;
  site = is.site;
  steps = subst (Steps W Z e.stream.0 (part_of W S e.stream.0) e.what heard) (sym is.own) steps;
  answers = answers-from W S T heard object answers is.called;
  other_parts = is.other_parts;
  other_objects = λ x other. is.other_objects x (λ at. other (sym is.site ∙ at));
}

pub events-are-steps : (W : Parts) (Z : Stored) → EventsAreSteps W Z
events-are-steps W Z valid stored S T e sound comes =
    let s : ℕ = e.stream.0 in
    let t : Turn W Z S s e.what = turn W Z S s valid sound e.what comes.1 in
    let f : Event = record e { what = t.does } in
    let is : IsEventFrom W Z S f t.heard t.part t.object (after W S s t.does) = simulation W Z valid stored S f t.heard t.part t.object sound comes.0 t.steps t.answers in
    let same : t.does ≡ e.what = one-at-each-pool W Z S s t.does e.what sound is.comes.1 comes.1 t.at_pool t.said in
    subst (IsStep W Z S e) (sym comes.2)
    (subst (λ (w : What). IsStep W Z S (record e { what = w }) (after W S s w)) same (is-step W Z S f t.heard t.part t.object (after W S s t.does) t.steps t.answers is))

-- the call that was made at a named site
called : (W : Parts) (Z : Stored) (S : State) (e : Event) (T : State) (x : Site) (heard : Option Heard) → site_heard heard ≡ Some x → Steps W Z e.stream.0 (part_of W S e.stream.0) e.what heard
    (part_of W T e.stream.0) → AnswersFrom W S T heard →
    (act : Act) × (answer : Answer) × Steps W Z e.stream.0 (part_of W S e.stream.0) e.what (Some (x, act, answer)) (part_of W T e.stream.0) × SiteGives (object_of W S x) act answer (object_of W T x)
called W Z S e T x None at steps answers = absurd (none≢some at)
called W Z S e T x (Some h) at steps answers =
    let is : h.0 ≡ x = some-injective at in
    (h.1, h.2, subst (λ y. Steps W Z e.stream.0 (part_of W S e.stream.0) e.what (Some (y, h.1, h.2)) (part_of W T e.stream.0)) is steps, subst (λ y. SiteGives (object_of W S y) h.1 h.2 (object_of W T y)) is answers)

pub named-sites-are-called : (W : Parts) (Z : Stored) → NamedSitesAreCalled W Z
named-sites-are-called W Z valid stored S T e x sound comes named =
    let is : IsStep W Z S e T = events-are-steps W Z valid stored S T e sound comes in
    called W Z S e T x is.heard (is.site ∙ named) is.steps is.answers

-- nothing was heard if no site was called
unheard : (heard : Option Heard) → site_heard heard ≡ None → heard ≡ None
unheard None is = refl
unheard (Some h) is = absurd (none≢some (sym is))

pub others-call-nothing : (W : Parts) (Z : Stored) → OthersCallNothing W Z
others-call-nothing W Z valid stored S T e sound comes unnamed =
    let is : IsStep W Z S e T = events-are-steps W Z valid stored S T e sound comes in
    subst (λ heard. Steps W Z e.stream.0 (part_of W S e.stream.0) e.what heard (part_of W T e.stream.0)) (unheard is.heard (is.site ∙ unnamed)) is.steps
