use Rattle.std.proofs.Common.{◌≡◌, true, false}
use Rattle.abt_order.specs.Stored.{IsAnsweredOrder, stored_of}
use Rattle.abt_drain.specs.Answers.{AllAnswered}
use Rattle.abt_drain.specs.Crews.{IsCrew, moment_in}
use Rattle.abt_drain.specs.Rotations.{HaveTurned, IsAwake}
use Rattle.abt_drain.proofs.crew.Crew.rotate.Given as goal

abbrev pub invariant-streams : goal.invariant-streams
invariant-streams g l = record {
  crew : IsCrew l.fn.self.workload (stored_of l.orders (g.P.Work.returns l.work)) l.fn.self.steps l.self;
  keeps : l.self.keeps ≡ l.fn.self.keeps;
  answers : AllAnswered l.fn.self.workload (IsAnsweredOrder l.fn.self.workload l.orders) l.fn.self.streams → AllAnswered l.fn.self.workload (IsAnsweredOrder l.fn.self.workload l.orders) l.self.streams;
  turned : HaveTurned l.fn.self.workload (stored_of l.orders (g.P.Work.returns l.work)) l.fn.self.steps l.s (moment_in l.fn.self.workload l.fn.self) l.stepped (moment_in l.fn.self.workload l.self);
  none : l.s ≡ 0 → l.stepped ≡ false;
  awake : l.s ≡ 0 → IsAwake l.fn.self.workload (moment_in l.fn.self.workload l.self);
  stepped : l.stepped ≡ true → IsAwake l.fn.self.workload (moment_in l.fn.self.workload l.self);
}
