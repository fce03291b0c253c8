-- One event more is followed.
use Rattle.std.proofs.Common.{◌≡◌, ◌+◌, ◌++◌, [], ◌∷◌, List, subst, sym, take}
use Rattle.abt_machine.specs.declared.events.Event.{Event}
use Rattle.abt_machine.specs.Runs.{Run}
use Rattle.abt_machine.specs.Stored.{Stored}
use Rattle.abt_model.specs.Stored.{stored_with}
use Rattle.abt_schedule.specs.Reaching.{IsReached}
use Rattle.abt_schedule.proofs.Leading.{first-few, first-next, run-first}
use Rattle.abt_schedule.proofs.following.follow.Goals as goal

pub follow-requires-clause-reached : goal.follow-requires-clause-reached
follow-requires-clause-reached g c =
    let Z : Stored = stored_with c.args.z.now (g.P.Work.returns c.args.work.now) in
    let J : List Event = c.args.journal.now in
    let items : List Event = c.items-event-items.result.now in
    let at = c.loop-event.event-index in (
      take at J,
      first-few J items at c.items-event-items.ensures c.loop-event-test.true c.items-event-items.type_inv.1,
      c.loop-event.invariant,
      run-first c.args.w.now Z J items at c.event-item.result c.items-event-items.ensures c.loop-event-test.true c.event-item.is c.requires.run,
    )

pub loop-event-preserved : goal.loop-event-preserved
loop-event-preserved g c =
    let Z : Stored = stored_with c.args.z.now (g.P.Work.returns c.args.work.now) in
    let J : List Event = c.args.journal.now in
    let items : List Event = c.items-event-items.result.now in
    let at = c.loop-event.event-index in
    let e : Event = c.event-item.result in
    let run : Run c.args.w.now Z (take at J ++ e ∷ []) = run-first c.args.w.now Z J items at e c.items-event-items.ensures c.loop-event-test.true c.event-item.is c.requires.run in
    let next : take (at + 1) J ≡ take at J ++ e ∷ [] = first-next J items at e c.items-event-items.ensures c.loop-event-test.true c.event-item.is in
    subst (λ K. IsReached c.args.w.now Z K c.follow.new.self) (sym next) (c.in_ok-follow.ensures (take at J) (first-few J items at c.items-event-items.ensures c.loop-event-test.true c.items-event-items.type_inv.1) c.loop-event.invariant run)
