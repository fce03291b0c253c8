-- One turn more.
use Rattle.std.proofs.Common.{true, sym, subst}
use Rattle.abt_waves.specs.Stops.{StopsBy}
use Rattle.abt_waves.specs.Storing.{stored_by}
use Rattle.abt_waves.specs.Voyages.{HasGone}
use Rattle.abt_waves.proofs.voyages.turns.Goals as goal

pub returns-in-Some-take_turn-clause-gone : goal.returns-in-Some-take_turn-clause-gone
returns-in-Some-take_turn-clause-gone g c = λ first gone.
    let Z = stored_by (g.O.Orders.shapes c.args.orders.now) (g.P.Work.returns c.args.work.now) in
    subst (HasGone (g.C.Locked.locks c.args.locks.now) g.C.Locked.lock c.args.w.now Z first c.take_turn.new.stream) (sym c.rest.ensures.same)
    (c.take_turn.ensures.gone first (c.turns.invariant.gone first gone))

pub returns-in-Some-take_turn-clause-stops : goal.returns-in-Some-take_turn-clause-stops
returns-in-Some-take_turn-clause-stops g c = λ first gone.
    subst (λ p. StopsBy (g.C.Locked.locks c.args.locks.now) g.C.Locked.lock c.args.w.now true first.log c.take_turn.new.stream p c.in-Some-take_turn.stop) (sym c.rest.ensures.same)
    (c.in-Some-take_turn.ensures.stops first (c.turns.invariant.gone first gone))

pub turns-preserved : goal.turns-preserved
turns-preserved g c = record {
  next = tt;
  finite = tt;
  has = c.take_turn.ensures.has;
  answers = λ fits. c.take_turn.ensures.answers (c.turns.invariant.answers fits);
  gone = λ first gone. c.take_turn.ensures.gone first (c.turns.invariant.gone first gone);
}
