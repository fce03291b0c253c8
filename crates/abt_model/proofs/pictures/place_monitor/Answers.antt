-- Those that wait for the mutex, and those at its conditions.
use Rattle.std.proofs.Common.{◌≡◌, ◌∙◌, ap}
use Rattle.std.proofs.lemmas.Result.{IfOk-weaker}
use Rattle.abt_machine.specs.declared.events.Shown.TheVariants as shows
use Rattle.abt_machine.specs.Values.{conditions_of}
use Rattle.abt_calls.specs.Showing.{rows_as, rows_at}
use Rattle.abt_model.specs.Pictures.{placed}
use Rattle.abt_model.proofs.Placing.{then-placed}
use Rattle.abt_model.proofs.pictures.place_monitor.Goals as goal

pub returns : goal.returns
returns c =
    let old = c.args.rows.now.items in
    let x = c.args.x in
    let m = c.args.monitor.now in
    let cs = conditions_of c.args.w.now x.0 in
    let mid = c.place_queue.new.rows.items in
    let waiters : mid ≡ placed (rows_as (shows.Object x) m.waiters) old = c.in_ok-place_queue.ensures ∙ ap (λ os. placed (rows_as (shows.Object x) os) old) c.waiters.ensures in
    IfOk-weaker c.place_conditions.result _ _ (λ _ put. then-placed (rows_as (shows.Object x) m.waiters) (rows_at cs m.conds) old mid c.place_conditions.new.rows.items waiters
    (put ∙ ap (λ conds. placed (rows_at cs conds) mid) c.conds.ensures)) c.place_conditions.ensures
