use Rattle.std.proofs.Common.{◌≡◌, ℕ, subst, sym}
use Rattle.std.proofs.lemmas.Result.{IfOk-weaker}
use Rattle.abt_machine.specs.State.{State}
use Rattle.abt_machine.specs.Values.{Held, part_of}
use Rattle.abt_model.specs.Models.{ModelValue, StandsFor}
use Rattle.abt_model.specs.Turns.{CanMove, MovesAs}
use Rattle.abt_model.specs.Stored.{stored_with}
use Rattle.abt_model.proofs.Following.{can-move, is-made, lane-is}
use Rattle.abt_model.proofs.model.Model.make.Goals as goal

pub move_as-requires-clause-lane : goal.move_as-requires-clause-lane
move_as-requires-clause-lane g c =
    let W = c.args.w.now in
    let Z = stored_with c.args.z.now (g.P.Work.returns c.args.work.now) in
    let n : ℕ = c.requires.state.0 in
    let S : State = c.requires.state.2 in
    let model : ModelValue = record { lanes = c.self.inside.lanes.items; objects = c.self.inside.objects } in
    let stands : StandsFor W S model = subst (StandsFor W S) (sym c.self.view_is) c.requires.state.4 in
    let lane : Held = c.index_mut-lane.result.now in
    let is : lane ≡ part_of W S c.args.s.0 = lane-is W S c.args.s.0 model lane c.requires.stream stands c.index_mut-lane.ensures.value in
    subst (CanMove W c.args.z.now) (sym is) (can-move W Z n c.args.s.0 S c.requires.state.1 c.requires.stream c.requires.state.3)

pub returns : goal.returns
returns g c =
    let W = c.args.w.now in
    let Z = stored_with c.args.z.now (g.P.Work.returns c.args.work.now) in
    let model : ModelValue = record { lanes = c.self.inside.lanes.items; objects = c.self.inside.objects } in
    let lane : Held = c.index_mut-lane.result.now in
    IfOk-weaker c.move_as.result _ _ (λ made moves n S state stands.
    (let here : StandsFor W S model = subst (StandsFor W S) (sym c.self.view_is) stands in
    let is : lane ≡ part_of W S c.args.s.0 = lane-is W S c.args.s.0 model lane c.requires.stream here c.index_mut-lane.ensures.value in
    is-made W Z n c.args.s.0 S model c.requires.valid c.requires.stored c.requires.stream state here c.args.hint.now made c.move_as.new.lane c.move_as.new.objects
    (subst (λ (held : Held). MovesAs W Z c.args.s.0 held model.objects c.args.hint.now made c.move_as.new.lane c.move_as.new.objects) is moves))) c.move_as.ensures
