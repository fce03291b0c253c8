-- The fleet between waves.
use Rattle.std.proofs.Common.{◌≡◌, true, replicate}
use Rattle.abt_drain.specs.Answers.{AllAnswered}
use Rattle.abt_drain.specs.Crews.{moment_in}
use Rattle.abt_drain.specs.Rotations.{work_at}
use Rattle.abt_waves.specs.Waves.{IsFleetOf}
use Rattle.abt_waves.specs.Storing.{stored_by}
use Rattle.abt_waves.proofs.fleet.Fleet.run.Given as goal

abbrev pub invariant-waves : goal.invariant-waves
invariant-waves g l = record {
  fleet : IsFleetOf g.L.Locked.lock g.L.Locked.clock l.fn.self.workload (stored_by (g.O.Orders.shapes l.orders) (g.P.Work.returns l.work)) l.fn.self.steps l.fleet;
  keeps : l.fleet.keeps ≡ l.fn.self.keeps;
  answers : AllAnswered l.fn.self.workload (g.O.Orders.answered l.orders l.fn.self.workload) l.fn.self.streams → AllAnswered l.fn.self.workload (g.O.Orders.answered l.orders l.fn.self.workload) l.fleet.streams;
  flags : l.live.items ≡ replicate l.fn.self.workload.streams true;
}

abbrev pub decreases-waves : goal.decreases-waves
decreases-waves g l = work_at l.fn.self.workload l.fn.self.steps (moment_in l.fn.self.workload l.fleet)
