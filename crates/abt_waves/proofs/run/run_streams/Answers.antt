-- The run of several streams, over a lock for each site.
use denote.Param.Send.{sendable}
use Rattle.std.proofs.Common.{◌≡◌, ◌≤◌, ◌∙◌, refl, sym, subst, arith}
use Rattle.std.proofs.lemmas.List.{length-map}
use Rattle.std.proofs.lemmas.Result.{IfOk-weaker}
use Rattle.abt_machine.specs.Stored.{CallsStored}
use Rattle.abt_order.specs.Stored.{IsAnsweredOrder, stored_of}
use Rattle.abt_drain.specs.Answers.{AllAnswered}
use Rattle.abt_commons.specs.Held.{clock_at}
use Rattle.abt_commons.specs.Splits.{own_lock}
use Rattle.abt_waves.specs.Ends.{LeavesLogs, LeavesWaves}
use Rattle.abt_waves.specs.Waves.{HasEnded, IsFleetOf}
use Rattle.abt_waves.proofs.Fleets.{fleet-own, own-fleet, own-leaves, rotation-leaves, waves-answers}
use Rattle.abt_waves.proofs.run.run_streams.Goals as goal

pub new-requires : goal.new-requires
new-requires g c κs = ((refl, tt), subst (λ k. 2 ≤ k) (sym (length-map c.args.orders.now _)) c.requires.orders)

pub run_split-requires : goal.run_split-requires
run_split-requires g c =
    let Z = stored_of c.args.orders.now (g.P.Work.returns c.args.work.now) in
    let fleet = c.in_ok-fleet.ensures.fleet (g.P.Work.returns c.args.work.now) in
    let several : 2 ≤ c.args.w.now.streams = omega (arith, c.streams.ensures.valid.some_stream) in (
      search sendable depth 20,
      (
        search sendable depth 20,
        (
          fleet-own own_lock clock_at (λ V k. 2 ≤ V.streams) c.args.w.now Z c.args.steps c.in_ok-fleet.fleet fleet several,
          (
            fleet-own own_lock clock_at (λ V k. CallsStored V (g.P.Work.count c.args.work.now)) c.args.w.now Z c.args.steps c.in_ok-fleet.fleet fleet c.requires.calls,
            fleet-own own_lock clock_at (λ V k. IsFleetOf own_lock clock_at V Z k c.in_ok-fleet.fleet) c.args.w.now Z c.args.steps c.in_ok-fleet.fleet fleet fleet,
          ),
        ),
      ),
    )

pub end-requires : goal.end-requires
end-requires g c κs =
    let Z = stored_of c.args.orders.now (g.P.Work.returns c.args.work.now) in
    let fleet = c.in_ok-fleet.ensures.fleet (g.P.Work.returns c.args.work.now) in
    let ended : HasEnded own_lock clock_at c.args.w.now Z c.args.steps c.in_ok-fleet-2.fleet c.in_ok-fleet-2.outcome =
    own-fleet own_lock clock_at (λ V k. HasEnded own_lock clock_at V Z k c.in_ok-fleet-2.fleet c.in_ok-fleet-2.outcome) c.args.w.now Z c.args.steps c.in_ok-fleet.fleet fleet c.in_ok-fleet-2.ensures.ended in
    ((refl, tt), (Z, fleet-own own_lock clock_at (λ V k. HasEnded own_lock clock_at V Z k c.in_ok-fleet-2.fleet c.in_ok-fleet-2.outcome) c.args.w.now Z c.args.steps c.in_ok-fleet-2.fleet ended.fleet_is ended))

pub returns : goal.returns
returns g c =
    let Z = stored_of c.args.orders.now (g.P.Work.returns c.args.work.now) in
    let several : 2 ≤ c.args.w.now.streams = omega (arith, c.streams.ensures.valid.some_stream) in
    let fleet = c.in_ok-fleet.ensures.fleet (g.P.Work.returns c.args.work.now) in
    let ended : HasEnded own_lock clock_at c.args.w.now Z c.args.steps c.in_ok-fleet-2.fleet c.in_ok-fleet-2.outcome =
    own-fleet own_lock clock_at (λ V k. HasEnded own_lock clock_at V Z k c.in_ok-fleet-2.fleet c.in_ok-fleet-2.outcome) c.args.w.now Z c.args.steps c.in_ok-fleet.fleet fleet c.in_ok-fleet-2.ensures.ended in
    let keeps : c.in_ok-fleet-2.fleet.keeps ≡ c.args.keeps = c.in_ok-fleet-2.ensures.keeps ∙ c.in_ok-fleet.ensures.keeps in
    let Answered = IsAnsweredOrder c.args.w.now c.args.orders.now in
    let answers : AllAnswered c.args.w.now Answered c.in_ok-fleet-2.fleet.streams =
    own-fleet own_lock clock_at (λ V k. AllAnswered V (IsAnsweredOrder V c.args.orders.now) c.in_ok-fleet.fleet.streams → AllAnswered V (IsAnsweredOrder V c.args.orders.now) c.in_ok-fleet-2.fleet.streams)
    c.args.w.now Z c.args.steps c.in_ok-fleet.fleet fleet c.in_ok-fleet-2.ensures.answers c.in_ok-fleet.ensures.answers in
    record {
      run = IfOk-weaker c.end.result _ _ (λ run leaves. own-leaves c.args.w.now Z Answered c.args.steps c.args.keeps run several (subst (λ k. LeavesWaves own_lock c.args.w.now Z Answered c.args.steps k run) keeps (
          waves-answers own_lock clock_at c.args.w.now Z Answered c.args.steps c.in_ok-fleet-2.fleet run ended.fleet_is answers (
          own-fleet own_lock clock_at (λ V k. LeavesLogs own_lock V Z k c.in_ok-fleet-2.fleet.keeps c.in_ok-fleet-2.fleet.streams run) c.args.w.now Z c.args.steps c.in_ok-fleet-2.fleet ended.fleet_is
          (leaves Z (fleet-own own_lock clock_at (λ V k. HasEnded own_lock clock_at V Z k c.in_ok-fleet-2.fleet c.in_ok-fleet-2.outcome) c.args.w.now Z c.args.steps c.in_ok-fleet-2.fleet ended.fleet_is ended)))))) c.end.ensures;
    }

pub returns-then-streams-eq1 : goal.returns-then-streams-eq1
returns-then-streams-eq1 g c =
    let Z = stored_of c.args.orders.now (g.P.Work.returns c.args.work.now) in
    record { run = IfOk-weaker c.drain_with.result _ _ (λ run leaves. rotation-leaves c.args.w.now Z (IsAnsweredOrder c.args.w.now c.args.orders.now) c.args.steps c.args.keeps run leaves) c.drain_with.ensures.run }
