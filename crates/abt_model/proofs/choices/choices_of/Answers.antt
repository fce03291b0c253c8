use Rattle.std.proofs.Common.{rules, ◌≡◌, [], None, Some, subst}
use Rattle.std.proofs.lemmas.Result.{IfOk-weaker}
use Rattle.abt_machine.specs.Next.{RoundDue}
use Rattle.abt_machine.specs.State.{Frame}
use Rattle.abt_machine.specs.Turns.{due_of}
use Rattle.abt_machine.specs.Values.{Held, Owned}
use Rattle.abt_plans.specs.Marks.{mark_of}
use Rattle.abt_model.specs.Hints.{AreHints, HoldsCall, MayReturnAny, TellRuns, TellVisits}
use Rattle.abt_model.specs.Stored.{stored_with}
use Rattle.abt_model.proofs.Hinting.{give-weaker, visit-hints}
use Rattle.abt_model.proofs.InHand.{runs-any, runs-hints}
use Rattle.abt_model.proofs.choices.choices_of.Goals as goal

pub returns-in-Some : goal.returns-in-Some
returns-in-Some g c =
    let W = c.args.w.now in
    let Z = stored_with c.args.z.now (g.P.Work.returns c.args.work.now) in
    let held : Held = c.args.lane.now in
    let o : Owned = c.in-Some.unit.now in
    let m = mark_of c.mark.result in
    let tray : held.tray ≡ [] = search rules in
    let next : held.next ≡ None = search rules in
    let holds : held.hand ≡ Some o = search rules in
    IfOk-weaker c.runs.result _ _ (give-weaker (TellRuns W Z.returns c.args.s.0 m o) (AreHints W Z c.args.s.0 held) (MayReturnAny W Z.returns c.args.s.0 m o) (λ f. (p : Owned) × HoldsCall W c.args.s.0 held p f × (Z.returns f p.number p.carried.acc p.carried.keys ≡ None))
    (λ hints tell. runs-hints W Z c.args.s.0 held o tray next holds hints (subst (λ k. TellRuns W Z.returns c.args.s.0 k o hints) c.mark.ensures tell))
    (λ f any. runs-any W Z c.args.s.0 held o tray next holds f (subst (λ k. MayReturnAny W Z.returns c.args.s.0 k o f) c.mark.ensures any))) c.runs.ensures

pub returns : goal.returns
returns g c =
    let W = c.args.w.now in
    let due : due_of W c.args.s.0 c.args.lane.now ≡ RoundDue = search rules in
    visit-hints W (stored_with c.args.z.now (g.P.Work.returns c.args.work.now)) c.args.s.0 c.args.lane.now c.in_ok-hints.hints.items due
    (subst (λ (f : Frame). TellVisits W c.args.z.now f c.in_ok-hints.hints.items) c.top-2.ensures c.in_ok-hints.ensures)
