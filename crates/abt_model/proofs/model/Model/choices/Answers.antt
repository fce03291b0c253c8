use Rattle.std.proofs.Common.{◌≡◌, ℕ, None, subst, sym}
use Rattle.std.proofs.lemmas.Result.{IfOk-weaker}
use Rattle.abt_machine.specs.State.{State}
use Rattle.abt_machine.specs.Values.{Held, Owned, part_of}
use Rattle.abt_model.specs.Models.{ModelValue, StandsFor}
use Rattle.abt_model.specs.Stored.{stored_with}
use Rattle.abt_model.specs.Turns.{CanMove}
use Rattle.abt_model.proofs.Following.{can-move, lane-is}
use Rattle.abt_model.specs.Hints.{AreHints, HoldsCall}
use Rattle.abt_model.proofs.Hinting.{are-hints, calls-any, give-weaker}
use Rattle.abt_model.proofs.model.Model.choices.Goals as goal

pub choices_of-requires-clause-lane : goal.choices_of-requires-clause-lane
choices_of-requires-clause-lane g c =
    let W = c.args.w.now in
    let Z = stored_with c.args.z.now (g.P.Work.returns c.args.work.now) in
    let n : ℕ = c.requires.state.0 in
    let S : State = c.requires.state.2 in
    let model : ModelValue = record { lanes = c.self.inside.lanes.items; objects = c.self.inside.objects } in
    let stands : StandsFor W S model = subst (StandsFor W S) (sym c.self.view_is) c.requires.state.4 in
    let lane : Held = c.index.result.now in
    let is : lane ≡ part_of W S c.args.s.0 = lane-is W S c.args.s.0 model lane c.requires.stream stands c.index.ensures in
    subst (CanMove W c.args.z.now) (sym is) (can-move W Z n c.args.s.0 S c.requires.state.1 c.requires.stream c.requires.state.3)

pub returns : goal.returns
returns g c =
    let W = c.args.w.now in
    let Z = stored_with c.args.z.now (g.P.Work.returns c.args.work.now) in
    let model : ModelValue = record { lanes = c.self.inside.lanes.items; objects = c.self.inside.objects } in
    let lane : Held = c.index.result.now in
    let is : (S : State) → StandsFor W S c.args.self.now → lane ≡ part_of W S c.args.s.0 = λ S stands. lane-is W S c.args.s.0 model lane c.requires.stream (subst (StandsFor W S) (sym c.self.view_is) stands) c.index.ensures in
    IfOk-weaker c.choices_of.result _ _ (give-weaker (AreHints W Z c.args.s.0 lane) _ (λ f. (o : Owned) × HoldsCall W c.args.s.0 lane o f × (Z.returns f o.number o.carried.acc o.carried.keys ≡ None)) _
    (λ hints are n S state stands. are-hints W Z S c.args.s.0 lane hints (is S stands) are)
    (λ f any n S state stands. calls-any W Z S c.args.s.0 lane f (is S stands) any)) c.choices_of.ensures
