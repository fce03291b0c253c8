-- A wave over all streams.
use denote.Param.Send.{sendable}
use Rattle.std.proofs.Common.{ℕ, ◌<◌, true, length, slice_get, refl, sym, ◌∙◌, ap, subst}
use Rattle.std.proofs.lemmas.List.{length-replicate}
use Rattle.abt_machine.specs.Stored.{CallsStored}
use Rattle.abt_commons.proofs.Numbers.{get-replicate}
use Rattle.abt_drain.specs.Answers.{AllAnswered}
use Rattle.abt_drain.specs.Crews.{CrewValue, moment_in}
use Rattle.abt_waves.specs.Leaving.{HasLeft, Lowers}
use Rattle.abt_waves.specs.Waves.{IsFleetOf}
use Rattle.abt_waves.proofs.Fleets.{fleet_of, fresh-after, lowers-after}
use Rattle.abt_waves.specs.Storing.{stored_by}
use Rattle.abt_waves.proofs.fleet.Fleet.wave.Goals as goal

pub sail-requires : goal.sail-requires
sail-requires g c κs =
    let Z = stored_by (g.O.Orders.shapes c.args.orders.now) (g.P.Work.returns c.args.work.now) in
    let is : IsFleetOf g.L.Locked.lock g.L.Locked.clock c.self.inside.w.now Z c.self.inside.steps (fleet_of c.self.inside.w.now c.self.inside.steps c.self.inside.keeps c.self.inside.objects c.self.inside.streams.items) =
    subst (λ (v : CrewValue). IsFleetOf g.L.Locked.lock g.L.Locked.clock v.workload Z v.steps v) (sym c.self.view_is) c.requires.fleet in
    let calls = subst (λ (v : CrewValue). CallsStored v.workload (g.P.Work.count c.args.work.now)) (sym c.self.view_is) c.requires.calls in
    (search sendable depth 20, (search sendable depth 20, (search sendable depth 20, (search sendable depth 20, (search sendable depth 20, ((refl, tt), (calls, ((c.self.inside.steps, is.fleet_is), ap length c.requires.flags ∙ (length-replicate c.args.self.workload.streams true ∙ ap (λ (v : CrewValue). v.workload.streams) (sym c.self.view_is))))))))))

pub returns : goal.returns
returns g c =
    let Z = stored_by (g.O.Orders.shapes c.args.orders.now) (g.P.Work.returns c.args.work.now) in
    let is : IsFleetOf g.L.Locked.lock g.L.Locked.clock c.self.inside.w.now Z c.self.inside.steps (fleet_of c.self.inside.w.now c.self.inside.steps c.self.inside.keeps c.self.inside.objects c.self.inside.streams.items) =
    subst (λ (v : CrewValue). IsFleetOf g.L.Locked.lock g.L.Locked.clock v.workload Z v.steps v) (sym c.self.view_is) c.requires.fleet in
    let own : CrewValue = fleet_of c.self.inside.w.now c.self.inside.steps c.self.inside.keeps c.self.inside.objects c.self.inside.streams.items in
    let after : CrewValue = fleet_of c.self.inside.w.now c.self.inside.steps c.self.inside.keeps c.in_ok-objects.objects c.in_ok-objects.streams.items in
    let later = c.in_ok-objects.ensures.fleet own.steps is.fleet_is in
    let all : (s : ℕ) → s < own.workload.streams → HasLeft own.workload own.steps (moment_in own.workload own) (moment_in own.workload after) s = λ s lt.
    c.in_ok-objects.ensures.left own.steps is.fleet_is s (ap (λ flags. slice_get flags s) c.requires.flags ∙ get-replicate c.args.self.workload.streams s true (subst (λ (v : CrewValue). s < v.workload.streams) c.self.view_is lt)) in
    let next : IsFleetOf g.L.Locked.lock g.L.Locked.clock own.workload Z own.steps after = record {
      workload = refl;
      steps = refl;
      kept = c.in_ok-objects.ensures.keeps own.keeps is.kept;
      fleet_is = later;
      fresh = fresh-after g.L.Locked.lock g.L.Locked.clock own.workload Z own.steps own.objects after.objects own.streams after.streams is.fresh all;
    } in
    let lowers : Lowers own.workload own.steps (moment_in own.workload own) (moment_in own.workload after) =
    lowers-after g.L.Locked.lock g.L.Locked.clock own.workload Z own.steps own.objects after.objects own.streams after.streams is.fresh all is.fleet_is later c.args.live.now c.in_ok-objects.ensures.wave in
    record {
      fleet = subst (λ (v : CrewValue). IsFleetOf g.L.Locked.lock g.L.Locked.clock v.workload Z v.steps after) c.self.view_is next;
      lowers = subst (λ (v : CrewValue). Lowers v.workload v.steps (moment_in v.workload v) (moment_in v.workload after)) c.self.view_is lowers;
      keeps = ap (λ (v : CrewValue). v.keeps) c.self.view_is;
      answers = subst (λ (v : CrewValue). AllAnswered v.workload (g.O.Orders.answered c.args.orders.now v.workload) v.streams → AllAnswered v.workload (g.O.Orders.answered c.args.orders.now v.workload) after.streams)
          c.self.view_is c.in_ok-objects.ensures.answers;
    }
