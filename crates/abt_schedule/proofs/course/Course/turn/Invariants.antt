use Rattle.std.proofs.Common.{◌≡◌}
use Rattle.abt_model.specs.Stored.{stored_with}
use Rattle.abt_schedule.specs.Courses.{IsCourse}
use Rattle.abt_schedule.proofs.Turning.{GoesOn}
use Rattle.abt_schedule.proofs.course.Course.turn.Given as goal

abbrev pub invariant-loop : goal.invariant-loop
invariant-loop g l = record {
  course : IsCourse l.w (stored_with l.z (g.P.Work.returns l.work)) l.self;
  steps : l.self.steps ≡ l.fn.self.steps;
  goes : GoesOn l.w l.fn.self.steps l.s.0 l.fn.self.events.items l.self.events.items;
}
