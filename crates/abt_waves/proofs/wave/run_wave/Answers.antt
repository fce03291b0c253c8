-- A wave over a lock for each site.
use denote.Param.Send.{sendable}
use Rattle.std.proofs.Common.{refl}
use Rattle.abt_commons.proofs.Crosses.{Split-sync, SplitPass-send}
use Rattle.std.proofs.lemmas.Result.{IfOk-weaker}
use Rattle.abt_order.specs.Stored.{stored_of}
use Rattle.abt_waves.proofs.Crosses.{StoredOrders-sync, vtable-sync}
use Rattle.abt_waves.proofs.Fleets.{over-own, own-over, own-wave}
use Rattle.abt_waves.proofs.wave.run_wave.Goals as goal

pub sail-requires : goal.sail-requires
sail-requires g c κs =
    let Z = stored_of c.args.orders.now (g.P.Work.returns c.args.work.now) in
    (search (SplitPass-send, sendable) depth 30, (search sendable depth 30, (search sendable depth 30, (search (StoredOrders-sync, vtable-sync, g.dyn-1.3, sendable) depth 30, (search (Split-sync, sendable) depth 30, ((refl, tt), (c.requires.calls, ((c.requires.fleet.0, own-over c.args.w.now Z c.requires.fleet.0 c.args.objects c.args.streams.items c.requires.fleet.1), c.requires.flags))))))))

pub returns-clause-fleet : goal.returns-clause-fleet
returns-clause-fleet g c =
    let Z = stored_of c.args.orders.now (g.P.Work.returns c.args.work.now) in
    IfOk-weaker c.sail.result _ _ (λ left over n is. over-own c.args.w.now Z n left.0 left.1.items (over n (own-over c.args.w.now Z n c.args.objects c.args.streams.items is))) c.sail.ensures.fleet

pub returns-clause-wave : goal.returns-clause-wave
returns-clause-wave g c =
    let Z = stored_of c.args.orders.now (g.P.Work.returns c.args.work.now) in
    IfOk-weaker c.sail.result _ _ (λ left made. own-wave c.args.w.now Z c.args.live.now c.args.objects left.0 c.args.streams.items left.1.items made) c.sail.ensures.wave

pub returns-clause-left : goal.returns-clause-left
returns-clause-left g c =
    let Z = stored_of c.args.orders.now (g.P.Work.returns c.args.work.now) in
    IfOk-weaker c.sail.result _ _ (λ left so n is. so n (own-over c.args.w.now Z n c.args.objects c.args.streams.items is)) c.sail.ensures.left
