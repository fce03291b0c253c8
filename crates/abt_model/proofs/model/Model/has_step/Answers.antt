use Rattle.std.proofs.Common.{◌≡◌, ◌∙◌, ◌↔◌, IfSome, IsTrue, subst, sym}
use Rattle.abt_laws.proofs.DueParts.{due-same}
use Rattle.abt_machine.specs.Next.{StepDue, due}
use Rattle.abt_machine.specs.State.{State}
use Rattle.abt_machine.specs.Turns.{due_of}
use Rattle.abt_machine.specs.Values.{Held, part_of}
use Rattle.abt_model.specs.Models.{ModelValue, StandsFor}
use Rattle.abt_model.specs.Turns.{IsOfWorkload}
use Rattle.abt_model.proofs.Following.{hand-declared, lane-is}
use Rattle.abt_model.proofs.model.Model.has_step.Goals as goal

pub is_to_step-requires-clause-hand : goal.is_to_step-requires-clause-hand
is_to_step-requires-clause-hand c =
    let W = c.args.w.now in
    let S : State = c.requires.state.1 in
    let model : ModelValue = record { lanes = c.self.inside.lanes.items; objects = c.self.inside.objects } in
    let lane : Held = c.index.result.now in
    let is : lane ≡ part_of W S c.args.s.0 = lane-is W S c.args.s.0 model lane c.requires.stream (subst (StandsFor W S) (sym c.self.view_is) c.requires.state.3) c.index.ensures in
    subst (λ (h : Held). IfSome h.hand (IsOfWorkload W)) (sym is) (hand-declared W c.requires.state.0 c.args.s.0 S c.requires.state.2)

pub returns : goal.returns
returns c = λ S stands.
    let W = c.args.w.now in
    let s = c.args.s.0 in
    let model : ModelValue = record { lanes = c.self.inside.lanes.items; objects = c.self.inside.objects } in
    let lane : Held = c.index.result.now in
    let is : lane ≡ part_of W S s = lane-is W S s model lane c.requires.stream (subst (StandsFor W S) (sym c.self.view_is) stands) c.index.ensures in
    let here : IsTrue c.is_to_step.result ↔ (due_of W s (part_of W S s) ≡ StepDue) = subst (λ (h : Held). IsTrue c.is_to_step.result ↔ (due_of W s h ≡ StepDue)) is c.is_to_step.ensures in
    (λ yes. due-same W S s ∙ here.0 yes, λ step. here.1 (sym (due-same W S s) ∙ step))
