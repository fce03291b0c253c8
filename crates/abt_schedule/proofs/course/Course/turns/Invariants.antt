use Rattle.std.proofs.Common.{◌≡◌, drop}
use Rattle.abt_model.specs.Stored.{stored_with}
use Rattle.abt_schedule.specs.Courses.{IsCourse}
use Rattle.abt_schedule.proofs.Turning.{AreOn}
use Rattle.abt_schedule.proofs.course.Course.turns.Given as goal

abbrev pub invariant-loop-s : goal.invariant-loop-s
invariant-loop-s g l = record {
  course : IsCourse l.w (stored_with l.z (g.P.Work.returns l.work)) l.self;
  steps : l.self.steps ≡ l.fn.self.steps;
  on : AreOn l.w l.fn.self.steps l.streams (drop l.s-index l.streams) l.fn.self.events.items l.stepped l.self.events.items;
}
