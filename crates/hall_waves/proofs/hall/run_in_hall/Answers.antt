-- The run of all waves over one lock.
use denote.Param.Send.{sendable}
use Rattle.abt_commons.proofs.Crosses.{HallPass-send}
use Rattle.std.proofs.Common.{refl, ◌≤◌, sym, subst}
use Rattle.std.proofs.lemmas.List.{length-map}
use Rattle.std.proofs.lemmas.Result.{IfOk-weaker}
use Rattle.abt_order.specs.Stored.{IsAnsweredOrder, stored_of}
use Rattle.abt_commons.specs.Halls.{the_lock}
use Rattle.abt_waves.proofs.Crosses.{StoredOrders-sync, vtable-sync}
use Rattle.hall_waves.proofs.Crosses.{OneLock-sync}
use Rattle.hall_waves.proofs.HallEnds.{waves-leave}
use Rattle.hall_waves.proofs.hall.run_in_hall.Goals as goal

pub run_over-requires : goal.run_over-requires
run_over-requires g c κs = (search (HallPass-send, sendable) depth 30, (search sendable depth 30, (search sendable depth 30, (search (StoredOrders-sync, vtable-sync, g.dyn-1.3, sendable) depth 30, (search (OneLock-sync, sendable) depth 30, ((refl, tt), (subst (λ k. 2 ≤ k) (sym (length-map c.args.orders.now _)) c.requires.orders, c.requires.calls)))))))

pub returns : goal.returns
returns g c =
    let Z = stored_of c.args.orders.now (g.P.Work.returns c.args.work.now) in
    record { run = IfOk-weaker c.run_over.result _ _ (λ run leaves. waves-leave the_lock c.args.w.now Z (IsAnsweredOrder c.args.w.now c.args.orders.now) c.args.steps c.args.keeps run leaves) c.run_over.ensures.run }
