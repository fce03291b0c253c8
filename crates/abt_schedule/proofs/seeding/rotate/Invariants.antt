use Rattle.std.proofs.Common.{ℕ, ◌≡◌, ◌*◌, length}
use Rattle.abt_machine.specs.Rounds.{generator_at}
use Rattle.abt_model.specs.Stored.{stored_with}
use Rattle.abt_schedule.specs.Courses.{IsCourse}
use Rattle.abt_schedule.specs.Seeds.{AreDrawnRotations}
use Rattle.abt_schedule.proofs.seeding.rotate.Given as goal

abbrev pub invariant-loop : goal.invariant-loop
invariant-loop g l = record {
  course : IsCourse l.w (stored_with l.z (g.P.Work.returns l.work)) l.course;
  steps : l.course.steps ≡ l.fn.course.steps;
  rotations : (seed : ℕ) → l.fn.words ≡ generator_at seed (length l.w.scheds) 0 → AreDrawnRotations l.w seed l.fn.course.steps l.counter l.course.events.items × (l.words ≡ generator_at seed (length l.w.scheds) (l.counter * l.w.streams));
}
