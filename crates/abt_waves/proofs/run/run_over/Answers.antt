-- The run of all waves.
use denote.Param.Send.{sendable}
use Rattle.std.proofs.Common.{◌≡◌, ◌∙◌, refl, subst}
use Rattle.abt_machine.specs.Stored.{CallsStored}
use Rattle.std.proofs.lemmas.Result.{IfOk-weaker}
use Rattle.abt_waves.specs.Ends.{LeavesLogs, LeavesWaves}
use Rattle.abt_waves.specs.Waves.{HasEnded, IsFleetOf}
use Rattle.abt_waves.proofs.Fleets.{fleet-own, own-fleet, waves-answers}
use Rattle.abt_drain.specs.Answers.{AllAnswered}
use Rattle.abt_waves.specs.Storing.{stored_by}
use Rattle.abt_waves.proofs.run.run_over.Goals as goal

pub run-requires : goal.run-requires
run-requires g c κs =
    let Z = stored_by (g.O.Orders.shapes c.args.orders.now) (g.P.Work.returns c.args.work.now) in
    let fleet = c.in_ok-fleet.ensures.fleet (g.P.Work.returns c.args.work.now) in
    (search sendable depth 20, (search sendable depth 20, (search sendable depth 20, (search sendable depth 20, (search sendable depth 20, ((refl, tt), (fleet-own g.L.Locked.lock g.L.Locked.clock (λ V k. CallsStored V (g.P.Work.count c.args.work.now)) c.args.w.now Z c.args.steps c.in_ok-fleet.fleet fleet c.requires.calls, fleet-own g.L.Locked.lock g.L.Locked.clock (λ V k. IsFleetOf g.L.Locked.lock g.L.Locked.clock V Z k c.in_ok-fleet.fleet) c.args.w.now Z c.args.steps c.in_ok-fleet.fleet fleet fleet)))))))

pub end-requires : goal.end-requires
end-requires g c κs =
    let Z = stored_by (g.O.Orders.shapes c.args.orders.now) (g.P.Work.returns c.args.work.now) in
    let fleet = c.in_ok-fleet.ensures.fleet (g.P.Work.returns c.args.work.now) in
    let ended : HasEnded g.L.Locked.lock g.L.Locked.clock c.args.w.now Z c.args.steps c.in_ok-fleet-2.fleet c.in_ok-fleet-2.outcome =
    own-fleet g.L.Locked.lock g.L.Locked.clock (λ V k. HasEnded g.L.Locked.lock g.L.Locked.clock V Z k c.in_ok-fleet-2.fleet c.in_ok-fleet-2.outcome) c.args.w.now Z c.args.steps c.in_ok-fleet.fleet fleet c.in_ok-fleet-2.ensures.ended in
    ((refl, tt), (Z, fleet-own g.L.Locked.lock g.L.Locked.clock (λ V k. HasEnded g.L.Locked.lock g.L.Locked.clock V Z k c.in_ok-fleet-2.fleet c.in_ok-fleet-2.outcome) c.args.w.now Z c.args.steps c.in_ok-fleet-2.fleet ended.fleet_is ended))

pub returns : goal.returns
returns g c =
    let Z = stored_by (g.O.Orders.shapes c.args.orders.now) (g.P.Work.returns c.args.work.now) in
    let fleet = c.in_ok-fleet.ensures.fleet (g.P.Work.returns c.args.work.now) in
    let ended : HasEnded g.L.Locked.lock g.L.Locked.clock c.args.w.now Z c.args.steps c.in_ok-fleet-2.fleet c.in_ok-fleet-2.outcome =
    own-fleet g.L.Locked.lock g.L.Locked.clock (λ V k. HasEnded g.L.Locked.lock g.L.Locked.clock V Z k c.in_ok-fleet-2.fleet c.in_ok-fleet-2.outcome) c.args.w.now Z c.args.steps c.in_ok-fleet.fleet fleet c.in_ok-fleet-2.ensures.ended in
    let keeps : c.in_ok-fleet-2.fleet.keeps ≡ c.args.keeps = c.in_ok-fleet-2.ensures.keeps ∙ c.in_ok-fleet.ensures.keeps in
    let Answered = g.O.Orders.answered c.args.orders.now c.args.w.now in
    let answers : AllAnswered c.args.w.now Answered c.in_ok-fleet-2.fleet.streams =
    own-fleet g.L.Locked.lock g.L.Locked.clock (λ V k. AllAnswered V (g.O.Orders.answered c.args.orders.now V) c.in_ok-fleet.fleet.streams → AllAnswered V (g.O.Orders.answered c.args.orders.now V) c.in_ok-fleet-2.fleet.streams)
    c.args.w.now Z c.args.steps c.in_ok-fleet.fleet fleet c.in_ok-fleet-2.ensures.answers c.in_ok-fleet.ensures.answers in
    record {
      run = IfOk-weaker c.end.result _ _ (λ run leaves. subst (λ k. LeavesWaves g.L.Locked.lock c.args.w.now Z Answered c.args.steps k run) keeps (
          waves-answers g.L.Locked.lock g.L.Locked.clock c.args.w.now Z Answered c.args.steps c.in_ok-fleet-2.fleet run ended.fleet_is answers (
          own-fleet g.L.Locked.lock g.L.Locked.clock (λ V k. LeavesLogs g.L.Locked.lock V Z k c.in_ok-fleet-2.fleet.keeps c.in_ok-fleet-2.fleet.streams run) c.args.w.now Z c.args.steps c.in_ok-fleet-2.fleet ended.fleet_is
          (leaves Z (fleet-own g.L.Locked.lock g.L.Locked.clock (λ V k. HasEnded g.L.Locked.lock g.L.Locked.clock V Z k c.in_ok-fleet-2.fleet c.in_ok-fleet-2.outcome) c.args.w.now Z c.args.steps c.in_ok-fleet-2.fleet ended.fleet_is ended))))) c.end.ensures;
    }
