-- The stream so far.
use Rattle.std.proofs.Common.{◌≡◌}
use Rattle.abt_order.specs.Stored.{IsAnsweredOrder, stored_of}
use Rattle.abt_stream.specs.Answers.{FitsAnswers}
use Rattle.abt_stream.specs.Streams.{FitsShapes, FitsStream}
use Rattle.abt_waves.specs.Staying.{StaysCrew}
use Rattle.abt_waves.proofs.alone.turns.Given as goal

abbrev pub invariant-turns : goal.invariant-turns
invariant-turns g l = record {
  next : (goal.iterator-turns g).can_next l.iterator';
  finite : (goal.iterator-turns g).is_finite l.iterator';
  pass : l.pass.workload ≡ l.w;
  fits : FitsStream l.w l.stream;
  shapes : FitsShapes l.w (stored_of l.orders (g.P.Work.returns l.work)) l.stream;
  answers : FitsAnswers l.w (IsAnsweredOrder l.w l.orders) l.fn.stream → FitsAnswers l.w (IsAnsweredOrder l.w l.orders) l.stream;
  stays : StaysCrew l.w (stored_of l.orders (g.P.Work.returns l.work)) l.fn.stream l.fn.pass l.stream l.pass;
}
