-- The crew at the start.
use Rattle.std.proofs.Common.{◌≤◌, sym, subst}
use Rattle.std.proofs.lemmas.List.{length-map}
use Rattle.abt_machine.specs.Rounds.{OrdersStored}
use Rattle.abt_order.specs.Stored.{IsAnsweredOrder, stored_of}
use Rattle.abt_commons.specs.Placing.{ArePlaced}
use Rattle.abt_outcomes.proofs.Stored.{orders-stored}
use Rattle.abt_drain.proofs.Answering.{started-answers}
use Rattle.abt_drain.proofs.Started.{crew-started, is-start}
use Rattle.abt_drain.proofs.Starting.{start-awake, start-fresh, start-rotated}
use Rattle.abt_drain.proofs.crew.Crew.new.Goals as goal

pub returns-clause-crew : goal.returns-clause-crew
returns-clause-crew g c =
    λ returns.
    let Z = stored_of c.args.orders.now returns in
    let stored : OrdersStored c.args.w.now Z.orders = orders-stored c.args.w.now Z c.known.ensures (subst (λ k. 2 ≤ k) (sym (length-map c.args.orders.now _)) c.requires.orders) in
    crew-started c.args.w.now c.args.steps c.in_ok-streams.streams.items c.make-plain.result.1 c.in_ok-streams.ensures.streams (subst (ArePlaced c.args.w.now) (sym c.make-plain.ensures.pass) c.in_ok-place.ensures)
    Z c.args.keeps c.known.ensures stored c.in_ok-streams.ensures.keeps

pub returns-clause-fresh : goal.returns-clause-fresh
returns-clause-fresh g c =
    start-fresh c.args.w.now _ (is-start c.args.w.now c.args.steps c.in_ok-streams.streams.items c.make-plain.result.1 c.in_ok-streams.ensures.streams (subst (ArePlaced c.args.w.now) (sym c.make-plain.ensures.pass) c.in_ok-place.ensures))

pub returns-clause-awake : goal.returns-clause-awake
returns-clause-awake g c =
    start-awake c.args.w.now _ (is-start c.args.w.now c.args.steps c.in_ok-streams.streams.items c.make-plain.result.1 c.in_ok-streams.ensures.streams (subst (ArePlaced c.args.w.now) (sym c.make-plain.ensures.pass) c.in_ok-place.ensures))

pub returns-clause-rotated : goal.returns-clause-rotated
returns-clause-rotated g c =
    λ returns.
    start-rotated c.args.w.now _ (is-start c.args.w.now c.args.steps c.in_ok-streams.streams.items c.make-plain.result.1 c.in_ok-streams.ensures.streams (subst (ArePlaced c.args.w.now) (sym c.make-plain.ensures.pass) c.in_ok-place.ensures))
    (stored_of c.args.orders.now returns) c.args.steps

pub returns-clause-answers : goal.returns-clause-answers
returns-clause-answers g c =
    started-answers c.args.w.now (IsAnsweredOrder c.args.w.now c.args.orders.now) c.args.steps c.args.w.now.streams c.in_ok-streams.streams.items c.in_ok-streams.ensures.streams
