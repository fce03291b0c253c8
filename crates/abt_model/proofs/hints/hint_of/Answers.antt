use Rattle.std.proofs.Common.{rules, ◌≡◌, [], None, Some, subst, sym}
use Rattle.abt_machine.specs.Values.{Held, Owned}
use Rattle.abt_bounds.specs.Laws.{returned}
use Rattle.abt_model.specs.Hints.{MayBeTold, MayReturn}
use Rattle.abt_model.specs.Stored.{stored_with}
use Rattle.abt_model.proofs.InHand.{unit-told}
use Rattle.abt_model.proofs.hints.hint_of.Goals as goal

pub returns-in-Some : goal.returns-in-Some
returns-in-Some g c =
    let W = c.args.w.now in
    let Z = stored_with c.args.z.now (g.P.Work.returns c.args.work.now) in
    let held : Held = c.args.lane.now in
    let o : Owned = c.in-Some.unit.now in
    let tray : held.tray ≡ [] = search rules in
    let next : held.next ≡ None = search rules in
    let holds : held.hand ≡ Some o = search rules in
    subst (λ v. MayBeTold W Z c.args.s.0 held v (returned c.unit_hint.result)) (sym c.unit_hint.ensures.visits)
    (unit-told W Z c.args.s.0 held o tray next holds (returned c.unit_hint.result) (subst (λ k. MayReturn W Z.returns c.args.s.0 k o (returned c.unit_hint.result)) c.mark.ensures c.unit_hint.ensures.returns))
