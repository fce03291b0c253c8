-- A turn of one stream.
use Rattle.std.proofs.Common.{◌≡◌, ◌<◌, OnOk, set, slice_get, Some, sym, ap, subst}
use Rattle.abt_order.specs.Stored.{IsAnsweredOrder, stored_of}
use Rattle.abt_drain.specs.Answers.{AllAnswered}
use Rattle.abt_drain.specs.Crews.{CrewValue, IsCrew, moment_in}
use Rattle.abt_drain.specs.Rotations.{IsAwake}
use Rattle.abt_drain.proofs.Answering.{set-result}
use Rattle.abt_drain.proofs.Crewed.{CrewResult, crew-at, crew-result, on-ok}
use Rattle.abt_drain.proofs.crew.Crew.turn.Goals as goal

pub advance-requires-clause-fits : goal.advance-requires-clause-fits
advance-requires-clause-fits g c =
    let Z = stored_of c.args.orders.now (g.P.Work.returns c.args.work.now) in
    let own : CrewValue = record { workload = c.self.inside.w.now; steps = c.self.inside.steps; keeps = c.self.inside.keeps; objects = c.self.inside.pass; streams = c.self.inside.streams.items } in
    let is : IsCrew own.workload Z own.steps own = subst (λ (v : CrewValue). IsCrew v.workload Z v.steps v) (sym c.self.view_is) c.requires.crew in
    let lt : c.args.s < own.workload.streams = subst (λ (v : CrewValue). c.args.s < v.workload.streams) (sym c.self.view_is) c.requires.stream in
    (is.streams.own c.args.s c.index_mut.result.now (crew-at own.streams c.args.s c.index_mut.result.now (subst (λ k. c.args.s < k) (sym is.streams.many) lt) c.index_mut.ensures.value)).fits

pub advance-requires-clause-shapes : goal.advance-requires-clause-shapes
advance-requires-clause-shapes g c =
    let Z = stored_of c.args.orders.now (g.P.Work.returns c.args.work.now) in
    let own : CrewValue = record { workload = c.self.inside.w.now; steps = c.self.inside.steps; keeps = c.self.inside.keeps; objects = c.self.inside.pass; streams = c.self.inside.streams.items } in
    let is : IsCrew own.workload Z own.steps own = subst (λ (v : CrewValue). IsCrew v.workload Z v.steps v) (sym c.self.view_is) c.requires.crew in
    let lt : c.args.s < own.workload.streams = subst (λ (v : CrewValue). c.args.s < v.workload.streams) (sym c.self.view_is) c.requires.stream in
    is.shapes c.args.s c.index_mut.result.now (crew-at own.streams c.args.s c.index_mut.result.now (subst (λ k. c.args.s < k) (sym is.streams.many) lt) c.index_mut.ensures.value)

pub returns : goal.returns
returns g c =
    let Z = stored_of c.args.orders.now (g.P.Work.returns c.args.work.now) in
    let own : CrewValue = record { workload = c.self.inside.w.now; steps = c.self.inside.steps; keeps = c.self.inside.keeps; objects = c.self.inside.pass; streams = c.self.inside.streams.items } in
    let is : IsCrew own.workload Z own.steps own = subst (λ (v : CrewValue). IsCrew v.workload Z v.steps v) (sym c.self.view_is) c.requires.crew in
    let lt : c.args.s < own.workload.streams = subst (λ (v : CrewValue). c.args.s < v.workload.streams) (sym c.self.view_is) c.requires.stream in
    let awake : IsAwake own.workload (moment_in own.workload own) = subst (λ (v : CrewValue). IsAwake v.workload (moment_in v.workload v)) (sym c.self.view_is) c.requires.awake in
    let at : slice_get own.streams c.args.s ≡ Some c.index_mut.result.now = crew-at own.streams c.args.s c.index_mut.result.now (subst (λ k. c.args.s < k) (sym is.streams.many) lt) c.index_mut.ensures.value in
    let r = crew-result own.workload Z own.steps own is c.args.s lt c.index_mut.result.now c.advance.new.stream at c.advance.new.pass c.advance.result
    c.advance.ensures.turn c.advance.ensures.fits c.advance.ensures.shapes c.advance.ensures.number c.advance.ensures.keeps c.advance.ensures.budget c.advance.ensures.few c.advance.ensures.within c.advance.ensures.pass awake in
    let s = subst (λ (v : CrewValue). CrewResult v.workload Z v.steps c.args.s v c.advance.result (record own { objects = c.advance.new.pass; streams = set own.streams c.args.s c.advance.new.stream })) c.self.view_is r in
    record {
      turn = s.turn;
      crew = s.is_crew;
      keeps = on-ok c.advance.result (ap (λ (v : CrewValue). v.keeps) c.self.view_is);
      awake = s.awake;
      answers = subst (λ (v : CrewValue). OnOk c.advance.result (AllAnswered v.workload (IsAnsweredOrder v.workload c.args.orders.now) v.streams → AllAnswered v.workload (IsAnsweredOrder v.workload c.args.orders.now) (set own.streams c.args.s c.advance.new.stream)))
          c.self.view_is (set-result own.workload (IsAnsweredOrder own.workload c.args.orders.now) c.advance.result own.streams c.args.s c.index_mut.result.now c.advance.new.stream at c.advance.ensures.answers);
    }
