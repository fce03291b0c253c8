use Rattle.std.proofs.Common.{◌≡◌, ℕ, subst, sym}
use Rattle.abt_machine.specs.State.{State}
use Rattle.abt_machine.specs.Values.{Held, part_of}
use Rattle.abt_model.specs.Models.{ModelValue, StandsFor}
use Rattle.abt_model.specs.Stored.{stored_with}
use Rattle.abt_model.specs.Turns.{CanMove}
use Rattle.abt_model.proofs.Following.{can-move, lane-is}
use Rattle.abt_model.proofs.Hinting.{tells-some}
use Rattle.abt_model.proofs.model.Model.hint.Goals as goal

pub hint_of-requires-clause-lane : goal.hint_of-requires-clause-lane
hint_of-requires-clause-lane g c =
    let W = c.args.w.now in
    let Z = stored_with c.args.z.now (g.P.Work.returns c.args.work.now) in
    let n : ℕ = c.requires.state.0 in
    let S : State = c.requires.state.2 in
    let model : ModelValue = record { lanes = c.self.inside.lanes.items; objects = c.self.inside.objects } in
    let stands : StandsFor W S model = subst (StandsFor W S) (sym c.self.view_is) c.requires.state.4 in
    let lane : Held = c.index.result.now in
    let is : lane ≡ part_of W S c.args.s.0 = lane-is W S c.args.s.0 model lane c.requires.stream stands c.index.ensures in
    subst (CanMove W c.args.z.now) (sym is) (can-move W Z n c.args.s.0 S c.requires.state.1 c.requires.stream c.requires.state.3)

pub returns : goal.returns
returns g c = λ n S state stands.
    let W = c.args.w.now in
    let Z = stored_with c.args.z.now (g.P.Work.returns c.args.work.now) in
    let model : ModelValue = record { lanes = c.self.inside.lanes.items; objects = c.self.inside.objects } in
    let lane : Held = c.index.result.now in
    let is : lane ≡ part_of W S c.args.s.0 = lane-is W S c.args.s.0 model lane c.requires.stream (subst (StandsFor W S) (sym c.self.view_is) stands) c.index.ensures in
    tells-some W Z S c.args.s.0 lane c.hint_of.result is state.sound c.requires.stream c.hint_of.ensures
