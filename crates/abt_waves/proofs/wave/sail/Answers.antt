-- A wave over any locks.
use Rattle.std.proofs.Common.{refl, ◌∙◌}
use Rattle.abt_waves.proofs.Waving.{answers-on, all-back, all-left, all-may-go, keep-on, many-flags, many-passes, next-fleet, others-stay, valid-own, wave-made}
use Rattle.abt_waves.specs.Storing.{stored_by}
use Rattle.abt_waves.proofs.wave.sail.Goals as goal

pub jobs-requires-clause-passes : goal.jobs-requires-clause-passes
jobs-requires-clause-passes g c =
    let Z = stored_by (g.O.Orders.shapes c.args.orders.now) (g.P.Work.returns c.args.work.now) in
    many-passes g.L.Locked.is_of g.L.Locked.locks g.L.Locked.lock g.L.Locked.clock (c.in-Ok.ensures.tells c.args.w.now) c.args.w.now Z c.requires.fleet.0 c.args.objects c.args.streams.items c.requires.fleet.1 c.in-Ok.locks c.in-Ok.ensures.objects c.in-Ok.ensures.clocks c.streams-count.result c.streams-count.ensures.count c.in-Ok.passes.items c.in-Ok.ensures.passes c.args.live.now c.requires.flags

pub jobs-requires-clause-flags : goal.jobs-requires-clause-flags
jobs-requires-clause-flags g c =
    let Z = stored_by (g.O.Orders.shapes c.args.orders.now) (g.P.Work.returns c.args.work.now) in
    many-flags g.L.Locked.is_of g.L.Locked.locks g.L.Locked.lock g.L.Locked.clock (c.in-Ok.ensures.tells c.args.w.now) c.args.w.now Z c.requires.fleet.0 c.args.objects c.args.streams.items c.requires.fleet.1 c.in-Ok.locks c.in-Ok.ensures.objects c.in-Ok.ensures.clocks c.streams-count.result c.streams-count.ensures.count c.in-Ok.passes.items c.in-Ok.ensures.passes c.args.live.now c.requires.flags

pub run_jobs-requires-clause-may : goal.run_jobs-requires-clause-may
run_jobs-requires-clause-may g c κs within =
    let Z = stored_by (g.O.Orders.shapes c.args.orders.now) (g.P.Work.returns c.args.work.now) in
    all-may-go g.L.Locked.is_of g.L.Locked.locks g.L.Locked.lock g.L.Locked.clock (c.in-Ok.ensures.tells c.args.w.now) c.args.w.now Z c.requires.fleet.0 c.args.objects c.args.streams.items c.requires.fleet.1 c.in-Ok.locks c.in-Ok.ensures.objects c.in-Ok.ensures.clocks c.streams-count.result c.streams-count.ensures.count c.in-Ok.passes.items c.in-Ok.ensures.passes c.args.live.now c.requires.flags c.in_ok-jobs.jobs.items c.in_ok-jobs.ensures c.in-Ok.ensures.fresh

pub open-objects-requires : goal.open-objects-requires
open-objects-requires g c κs =
    let Z = stored_by (g.O.Orders.shapes c.args.orders.now) (g.P.Work.returns c.args.work.now) in
    ((refl, tt), (valid-own g.L.Locked.is_of g.L.Locked.locks g.L.Locked.lock g.L.Locked.clock (c.in-Ok.ensures.tells c.args.w.now) c.args.w.now Z c.requires.fleet.0 c.args.objects c.args.streams.items c.requires.fleet.1 c.in-Ok.locks c.in-Ok.ensures.objects c.in-Ok.ensures.clocks, all-back g.L.Locked.is_of g.L.Locked.locks g.L.Locked.lock g.L.Locked.clock (c.in-Ok.ensures.tells c.args.w.now) c.args.w.now Z c.requires.fleet.0 c.args.objects c.args.streams.items c.requires.fleet.1 c.in-Ok.locks c.in-Ok.ensures.objects c.in-Ok.ensures.clocks c.streams-count.result c.streams-count.ensures.count c.in-Ok.passes.items c.in-Ok.ensures.passes c.args.live.now c.requires.flags c.in_ok-jobs.jobs.items c.in_ok-jobs.ensures c.in_ok-returned.returned.items c.in_ok-returned.ensures.many c.in_ok-returned.ensures.each c.in-Ok.ensures.streams c.in_ok-streams.passes.items c.in_ok-streams.ensures.passes_are))

pub returns-clause-fleet : goal.returns-clause-fleet
returns-clause-fleet g c =
    let Z = stored_by (g.O.Orders.shapes c.args.orders.now) (g.P.Work.returns c.args.work.now) in
    λ n is. next-fleet g.L.Locked.is_of g.L.Locked.locks g.L.Locked.lock g.L.Locked.clock (c.in-Ok.ensures.tells c.args.w.now) c.args.w.now Z n c.args.objects c.args.streams.items is c.in-Ok.locks c.in-Ok.ensures.objects c.in-Ok.ensures.clocks c.streams-count.result c.streams-count.ensures.count c.in-Ok.passes.items c.in-Ok.ensures.passes c.args.live.now c.requires.flags c.in_ok-jobs.jobs.items c.in_ok-jobs.ensures c.in_ok-returned.returned.items c.in_ok-returned.ensures.many c.in_ok-returned.ensures.each c.in-Ok.ensures.streams c.in_ok-streams.passes.items c.in_ok-streams.ensures.passes_are c.open-objects.result c.open-objects.ensures c.in_ok-streams.streams.items c.in_ok-streams.ensures.streams_are

pub returns-clause-left : goal.returns-clause-left
returns-clause-left g c =
    let Z = stored_by (g.O.Orders.shapes c.args.orders.now) (g.P.Work.returns c.args.work.now) in
    λ n is. all-left g.L.Locked.is_of g.L.Locked.locks g.L.Locked.lock g.L.Locked.clock (c.in-Ok.ensures.tells c.args.w.now) c.args.w.now Z n c.args.objects c.args.streams.items is c.in-Ok.locks c.in-Ok.ensures.objects c.in-Ok.ensures.clocks c.streams-count.result c.streams-count.ensures.count c.in-Ok.passes.items c.in-Ok.ensures.passes c.args.live.now c.requires.flags c.in_ok-jobs.jobs.items c.in_ok-jobs.ensures c.in_ok-returned.returned.items c.in_ok-returned.ensures.many c.in_ok-returned.ensures.each c.in-Ok.ensures.streams c.in_ok-streams.passes.items c.in_ok-streams.ensures.passes_are c.open-objects.result c.open-objects.ensures c.in_ok-streams.streams.items c.in_ok-streams.ensures.streams_are c.deref.result.now (c.deref.ensures.value ∙ c.in_ok-streams.ensures.stops_are) c.in_ok-settle.ensures

pub returns-clause-wave : goal.returns-clause-wave
returns-clause-wave g c =
    let Z = stored_by (g.O.Orders.shapes c.args.orders.now) (g.P.Work.returns c.args.work.now) in
    wave-made g.L.Locked.is_of g.L.Locked.locks g.L.Locked.lock g.L.Locked.clock (c.in-Ok.ensures.tells c.args.w.now) c.args.w.now Z c.requires.fleet.0 c.args.objects c.args.streams.items c.requires.fleet.1 c.in-Ok.locks c.in-Ok.ensures.objects c.in-Ok.ensures.clocks c.streams-count.result c.streams-count.ensures.count c.in-Ok.passes.items c.in-Ok.ensures.passes c.args.live.now c.requires.flags c.in_ok-jobs.jobs.items c.in_ok-jobs.ensures c.in_ok-returned.returned.items c.in_ok-returned.ensures.many c.in_ok-returned.ensures.each c.in-Ok.ensures.streams c.in_ok-streams.passes.items c.in_ok-streams.ensures.passes_are c.open-objects.result c.open-objects.ensures c.in_ok-streams.streams.items c.in_ok-streams.ensures.streams_are

pub returns-clause-still : goal.returns-clause-still
returns-clause-still g c =
    let Z = stored_by (g.O.Orders.shapes c.args.orders.now) (g.P.Work.returns c.args.work.now) in
    others-stay g.L.Locked.is_of g.L.Locked.locks g.L.Locked.lock g.L.Locked.clock (c.in-Ok.ensures.tells c.args.w.now) c.args.w.now Z c.requires.fleet.0 c.args.objects c.args.streams.items c.requires.fleet.1 c.in-Ok.locks c.in-Ok.ensures.objects c.in-Ok.ensures.clocks c.streams-count.result c.streams-count.ensures.count c.in-Ok.passes.items c.in-Ok.ensures.passes c.args.live.now c.requires.flags c.in_ok-jobs.jobs.items c.in_ok-jobs.ensures c.in_ok-returned.returned.items c.in_ok-returned.ensures.many c.in_ok-returned.ensures.each c.in-Ok.ensures.streams c.in_ok-streams.passes.items c.in_ok-streams.ensures.passes_are c.open-objects.result c.open-objects.ensures c.in_ok-streams.streams.items c.in_ok-streams.ensures.streams_are

pub returns-clause-keeps : goal.returns-clause-keeps
returns-clause-keeps g c =
    let Z = stored_by (g.O.Orders.shapes c.args.orders.now) (g.P.Work.returns c.args.work.now) in
    keep-on g.L.Locked.is_of g.L.Locked.locks g.L.Locked.lock g.L.Locked.clock (c.in-Ok.ensures.tells c.args.w.now) c.args.w.now Z c.requires.fleet.0 c.args.objects c.args.streams.items c.requires.fleet.1 c.in-Ok.locks c.in-Ok.ensures.objects c.in-Ok.ensures.clocks c.streams-count.result c.streams-count.ensures.count c.in-Ok.passes.items c.in-Ok.ensures.passes c.args.live.now c.requires.flags c.in_ok-jobs.jobs.items c.in_ok-jobs.ensures c.in_ok-returned.returned.items c.in_ok-returned.ensures.many c.in_ok-returned.ensures.each c.in-Ok.ensures.streams c.in_ok-streams.passes.items c.in_ok-streams.ensures.passes_are c.open-objects.result c.open-objects.ensures c.in_ok-streams.streams.items c.in_ok-streams.ensures.streams_are

pub returns-clause-answers : goal.returns-clause-answers
returns-clause-answers g c =
    let Z = stored_by (g.O.Orders.shapes c.args.orders.now) (g.P.Work.returns c.args.work.now) in
    answers-on g.L.Locked.is_of g.L.Locked.locks g.L.Locked.lock g.L.Locked.clock (c.in-Ok.ensures.tells c.args.w.now) c.args.w.now Z c.requires.fleet.0 c.args.objects c.args.streams.items c.requires.fleet.1 c.in-Ok.locks c.in-Ok.ensures.objects c.in-Ok.ensures.clocks c.streams-count.result c.streams-count.ensures.count c.in-Ok.passes.items c.in-Ok.ensures.passes c.args.live.now c.requires.flags c.in_ok-jobs.jobs.items c.in_ok-jobs.ensures c.in_ok-returned.returned.items c.in_ok-returned.ensures.many c.in_ok-returned.ensures.each c.in-Ok.ensures.streams c.in_ok-streams.passes.items c.in_ok-streams.ensures.passes_are c.open-objects.result c.open-objects.ensures c.in_ok-streams.streams.items c.in_ok-streams.ensures.streams_are
    (g.O.Orders.answered c.args.orders.now c.args.w.now) c.in_ok-returned.ensures.answers
