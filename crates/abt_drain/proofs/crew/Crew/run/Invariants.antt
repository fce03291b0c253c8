use Rattle.std.proofs.Common.{◌≡◌, ℕ, ◌<◌}
use Rattle.abt_order.specs.Stored.{IsAnsweredOrder, stored_of}
use Rattle.abt_drain.specs.Answers.{AllAnswered}
use Rattle.abt_drain.specs.Crews.{IsCrew, moment_in}
use Rattle.abt_drain.specs.Rotations.{HaveRotated, IsAwake, HasSeenNone, work_at}
use Rattle.abt_drain.proofs.crew.Crew.run.Given as goal

abbrev pub invariant-rotations : goal.invariant-rotations
invariant-rotations g l = record {
  crew : IsCrew l.fn.self.workload (stored_of l.orders (g.P.Work.returns l.work)) l.fn.self.steps l.self;
  keeps : l.self.keeps ≡ l.fn.self.keeps;
  answers : AllAnswered l.fn.self.workload (IsAnsweredOrder l.fn.self.workload l.orders) l.fn.self.streams → AllAnswered l.fn.self.workload (IsAnsweredOrder l.fn.self.workload l.orders) l.self.streams;
  fresh : (s : ℕ) → s < l.fn.self.workload.streams → HasSeenNone (moment_in l.fn.self.workload l.self) s;
  rotated : HaveRotated l.fn.self.workload (stored_of l.orders (g.P.Work.returns l.work)) l.fn.self.steps (moment_in l.fn.self.workload l.self);
  awake : IsAwake l.fn.self.workload (moment_in l.fn.self.workload l.self);
}

abbrev pub decreases-rotations : goal.decreases-rotations
decreases-rotations g l = work_at l.fn.self.workload l.fn.self.steps (moment_in l.fn.self.workload l.self)
