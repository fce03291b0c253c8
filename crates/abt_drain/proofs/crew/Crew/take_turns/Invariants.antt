use Rattle.std.proofs.Common.{◌≡◌}
use Rattle.abt_order.specs.Stored.{IsAnsweredOrder, stored_of}
use Rattle.abt_drain.specs.Answers.{AllAnswered}
use Rattle.abt_drain.specs.Crews.{IsCrew, moment_in}
use Rattle.abt_drain.specs.Rotations.{IsAwake, MovesOn, turns_at}
use Rattle.abt_drain.proofs.crew.Crew.take_turns.Given as goal

abbrev pub invariant-turns : goal.invariant-turns
invariant-turns g l = record {
  crew : IsCrew l.fn.self.workload (stored_of l.orders (g.P.Work.returns l.work)) l.fn.self.steps l.self;
  keeps : l.self.keeps ≡ l.fn.self.keeps;
  answers : AllAnswered l.fn.self.workload (IsAnsweredOrder l.fn.self.workload l.orders) l.fn.self.streams → AllAnswered l.fn.self.workload (IsAnsweredOrder l.fn.self.workload l.orders) l.self.streams;
  moves : MovesOn l.fn.self.workload (stored_of l.orders (g.P.Work.returns l.work)) l.s (moment_in l.fn.self.workload l.fn.self) (moment_in l.fn.self.workload l.self);
  awake : IsAwake l.fn.self.workload (moment_in l.fn.self.workload l.self);
}

abbrev pub decreases-turns : goal.decreases-turns
decreases-turns g l = turns_at l.fn.self.workload (moment_in l.fn.self.workload l.self) l.s
