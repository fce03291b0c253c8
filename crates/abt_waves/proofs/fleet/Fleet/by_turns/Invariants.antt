-- The fleet so far.
use Rattle.std.proofs.Common.{◌≡◌, ◌≤◌}
use Rattle.abt_drain.specs.Crews.{moment_in}
use Rattle.abt_drain.specs.Rotations.{work_at}
use Rattle.abt_order.specs.Stored.{IsAnsweredOrder, stored_of}
use Rattle.abt_drain.specs.Answers.{AllAnswered}
use Rattle.abt_commons.specs.Held.{clock_at}
use Rattle.abt_commons.specs.Splits.{own_lock}
use Rattle.abt_waves.specs.Waves.{IsFleetOf}
use Rattle.abt_waves.proofs.fleet.Fleet.by_turns.Given as goal

abbrev pub invariant-times : goal.invariant-times
invariant-times g l = record {
  fleet : IsFleetOf own_lock clock_at l.fn.self.workload (stored_of l.orders (g.P.Work.returns l.work)) l.fn.self.steps l.fleet;
  raises_none : work_at l.fn.self.workload l.fn.self.steps (moment_in l.fn.self.workload l.fleet) ≤ work_at l.fn.self.workload l.fn.self.steps (moment_in l.fn.self.workload l.fn.self);
  keeps : l.fleet.keeps ≡ l.fn.self.keeps;
  answers : AllAnswered l.fn.self.workload (IsAnsweredOrder l.fn.self.workload l.orders) l.fn.self.streams → AllAnswered l.fn.self.workload (IsAnsweredOrder l.fn.self.workload l.orders) l.fleet.streams;
}
