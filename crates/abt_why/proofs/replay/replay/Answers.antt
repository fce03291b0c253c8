use Rattle.std.proofs.Common.{◌≡◌, ◌+◌, ◌++◌, [], ◌∷◌, List, length, subst, sym, take}
use Rattle.abt_machine.specs.declared.events.Event.{Event}
use Rattle.abt_machine.specs.Runs.{last_state}
use Rattle.abt_model.specs.Stored.{stored_with}
use Rattle.abt_outcomes.proofs.Stored.{orders-stored}
use Rattle.abt_why.specs.Replays.{HasFollowed}
use Rattle.abt_why.proofs.Following.{first-long, first-more, one-more, run-more, starts, stream-declared}
use Rattle.abt_why.proofs.replay.replay.Goals as goal

pub loop-event-init : goal.loop-event-init
loop-event-init g c =
    let Z = stored_with c.args.z.now (g.P.Work.returns c.args.work.now) in
    starts c.args.w.now Z c.in_ok-model.model c.known.ensures (orders-stored c.args.w.now Z c.known.ensures c.requires.orders) c.in_ok-model.ensures

pub follow-requires-clause-stored : goal.follow-requires-clause-stored
follow-requires-clause-stored g c = orders-stored c.args.w.now (stored_with c.args.z.now (g.P.Work.returns c.args.work.now)) c.known.ensures c.requires.orders

pub follow-requires-clause-stream : goal.follow-requires-clause-stream
follow-requires-clause-stream g c =
    let Z = stored_with c.args.z.now (g.P.Work.returns c.args.work.now) in
    let J : List Event = c.args.journal.now in
    let at = c.loop-event.event-index in
    let e : Event = c.event-item.result in
    stream-declared c.args.w.now Z (take at J) e (run-more c.args.w.now Z J c.items-event-items.result.now at e c.items-event-items.ensures c.loop-event-test.true c.event-item.is c.requires.run)

pub follow-requires-clause-state : goal.follow-requires-clause-state
follow-requires-clause-state g c =
    let J : List Event = c.args.journal.now in
    let at = c.loop-event.event-index in (
      length (take at J),
      first-long J c.items-event-items.result.now at c.items-event-items.ensures c.loop-event-test.true c.items-event-items.type_inv.0,
      last_state c.args.w.now (take at J),
      c.loop-event.invariant.state,
      c.loop-event.invariant.stands,
    )

pub loop-event-preserved : goal.loop-event-preserved
loop-event-preserved g c =
    let W = c.args.w.now in
    let Z = stored_with c.args.z.now (g.P.Work.returns c.args.work.now) in
    let J : List Event = c.args.journal.now in
    let at = c.loop-event.event-index in
    let e : Event = c.event-item.result in
    let items = c.items-event-items.result.now in
    let run = run-more W Z J items at e c.items-event-items.ensures c.loop-event-test.true c.event-item.is c.requires.run in
    let more : take (at + 1) J ≡ take at J ++ e ∷ [] = first-more J items at e c.items-event-items.ensures c.loop-event-test.true c.event-item.is in
    subst (λ K. HasFollowed W Z K c.follow.new.self) (sym more)
    (one-more W Z (take at J) e c.in_ok-follow.field-0 c.follow.new.self run
    (c.in_ok-follow.ensures (length (take at J)) (last_state W (take at J)) c.loop-event.invariant.state c.loop-event.invariant.stands))
