-- The turns of one stream of a fleet.
use Rattle.std.proofs.Common.{ℕ, ◌<◌, ◌≤◌, length, sym, ap, subst, arith}
use Rattle.abt_machine.specs.Stored.{CallsStored}
use Rattle.abt_order.specs.Stored.{IsAnsweredOrder, stored_of}
use Rattle.abt_drain.specs.Answers.{AllAnswered}
use Rattle.abt_commons.specs.Held.{clock_at}
use Rattle.abt_commons.specs.Splits.{own_lock}
use Rattle.abt_drain.specs.Crews.{CrewValue, IsCrew, moment_in}
use Rattle.abt_drain.specs.Rotations.{work_at}
use Rattle.abt_drain.proofs.Answering.{set-answers}
use Rattle.abt_drain.proofs.Crewed.{crew-at}
use Rattle.abt_waves.specs.Leaving.{BeginsRounds}
use Rattle.abt_waves.specs.Staying.{with_stream}
use Rattle.abt_waves.specs.Waves.{IsFleetOf}
use Rattle.abt_waves.proofs.Staying.{begins-at, crew-fleet, crew-stays, fleet-crew, fresh-stays, shapes-at, stream-at}
use Rattle.abt_waves.proofs.Fleets.{fleet_of}
use Rattle.abt_waves.proofs.fleet.Fleet.go.Goals as goal

pub go_alone-requires : goal.go_alone-requires
go_alone-requires g c =
    let Z = stored_of c.args.orders.now (g.P.Work.returns c.args.work.now) in
    let own : CrewValue = fleet_of c.self.inside.w.now c.self.inside.steps c.self.inside.keeps c.self.inside.objects c.self.inside.streams.items in
    let is : IsFleetOf own_lock clock_at own.workload Z own.steps own = subst (λ (v : CrewValue). IsFleetOf own_lock clock_at v.workload Z v.steps v) (sym c.self.view_is) c.requires.fleet in
    let several : 2 ≤ own.workload.streams = subst (λ (v : CrewValue). 2 ≤ v.workload.streams) (sym c.self.view_is) c.requires.several in
    let crew : IsCrew own.workload Z own.steps own = fleet-crew own.workload Z own.steps own several is in
    let inside : c.args.s < length own.streams = subst (λ k. c.args.s < k) (sym is.fleet_is.streams_are.many) (subst (λ (v : CrewValue). c.args.s < v.workload.streams) (sym c.self.view_is) c.requires.stream) in
    record {
      orders = is.fleet_is.stored;
      calls = subst (λ (v : CrewValue). CallsStored v.workload (g.P.Work.count c.args.work.now)) (sym c.self.view_is) c.requires.calls;
      objects = is.fleet_is.workload;
      fits = (stream-at own.workload Z own.steps c.args.s own several crew inside c.index_mut.result.now c.index_mut.ensures.value).fits;
      shapes = shapes-at own.workload Z own.steps c.args.s own several crew inside c.index_mut.result.now c.index_mut.ensures.value;
    }

pub returns : goal.returns
returns g c =
    let Z = stored_of c.args.orders.now (g.P.Work.returns c.args.work.now) in
    let own : CrewValue = fleet_of c.self.inside.w.now c.self.inside.steps c.self.inside.keeps c.self.inside.objects c.self.inside.streams.items in
    let is : IsFleetOf own_lock clock_at own.workload Z own.steps own = subst (λ (v : CrewValue). IsFleetOf own_lock clock_at v.workload Z v.steps v) (sym c.self.view_is) c.requires.fleet in
    let several : 2 ≤ own.workload.streams = subst (λ (v : CrewValue). 2 ≤ v.workload.streams) (sym c.self.view_is) c.requires.several in
    let crew : IsCrew own.workload Z own.steps own = fleet-crew own.workload Z own.steps own several is in
    let inside : c.args.s < length own.streams = subst (λ k. c.args.s < k) (sym is.fleet_is.streams_are.many) (subst (λ (v : CrewValue). c.args.s < v.workload.streams) (sym c.self.view_is) c.requires.stream) in
    let next : CrewValue = with_stream own c.args.s c.go_alone.new.stream c.in_ok-objects.objects in
    let stays = crew-stays own.workload Z own.steps c.args.s own several crew inside c.index_mut.result.now c.index_mut.ensures.value c.go_alone.new.stream c.in_ok-objects.objects c.in_ok-objects.ensures.stays in
    let fresh : BeginsRounds own.workload (moment_in own.workload next) = fresh-stays own.workload Z own.steps c.args.s own several crew inside c.index_mut.result.now c.index_mut.ensures.value c.go_alone.new.stream c.in_ok-objects.objects is.fresh (begins-at own.workload Z own.steps c.args.s own several crew inside c.index_mut.result.now c.index_mut.ensures.value c.go_alone.new.stream c.in_ok-objects.ensures.fresh) in
    record {
      fleet = subst (λ (v : CrewValue). IsFleetOf own_lock clock_at v.workload Z v.steps next) c.self.view_is (crew-fleet own.workload Z own.steps next stays.0 fresh);
      raises_none = subst (λ (v : CrewValue). work_at v.workload v.steps (moment_in v.workload next) ≤ work_at v.workload v.steps (moment_in v.workload v)) c.self.view_is stays.1;
      keeps = ap (λ (v : CrewValue). v.keeps) c.self.view_is;
      answers = subst (λ (v : CrewValue). AllAnswered v.workload (IsAnsweredOrder v.workload c.args.orders.now) v.streams → AllAnswered v.workload (IsAnsweredOrder v.workload c.args.orders.now) next.streams) c.self.view_is
          (set-answers own.workload (IsAnsweredOrder own.workload c.args.orders.now) own.streams c.args.s c.index_mut.result.now c.go_alone.new.stream (crew-at own.streams c.args.s c.index_mut.result.now inside c.index_mut.ensures.value) c.in_ok-objects.ensures.answers);
    }
