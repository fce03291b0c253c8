-- The stream so far.
use Rattle.abt_stream.specs.Answers.{FitsAnswers}
use Rattle.abt_stream.specs.Streams.{StreamValue}
use Rattle.abt_waves.specs.Voyages.{HasGone, HasPass}
use Rattle.abt_waves.specs.Storing.{stored_by}
use Rattle.abt_waves.proofs.voyages.turns.Given as goal

abbrev pub invariant-turns : goal.invariant-turns
invariant-turns g l = record {
  next : (goal.iterator-turns g).can_next l.iterator';
  finite : (goal.iterator-turns g).is_finite l.iterator';
  has : HasPass (g.C.Locked.is_of l.locks) (g.C.Locked.locks l.locks) l.w (stored_by (g.O.Orders.shapes l.orders) (g.P.Work.returns l.work)) l.stream l.pass;
  answers : FitsAnswers l.w (g.O.Orders.answered l.orders l.w) l.fn.stream → FitsAnswers l.w (g.O.Orders.answered l.orders l.w) l.stream;
  gone : (first : StreamValue) → HasGone (g.C.Locked.locks l.locks) g.C.Locked.lock l.w (stored_by (g.O.Orders.shapes l.orders) (g.P.Work.returns l.work)) first l.fn.stream l.fn.pass → HasGone (g.C.Locked.locks l.locks) g.C.Locked.lock l.w (stored_by (g.O.Orders.shapes l.orders) (g.P.Work.returns l.work)) first l.stream l.pass;
}
