use Rattle.std.proofs.Common.{ℕ, ◌≤◌}
use Rattle.abt_machine.specs.declared.workload.Parts.{Parts}
use Rattle.abt_order.specs.Schedulers.{SchedulerValue, IsSchedulerOf, IsStored}
use Rattle.trials_runs.proofs.rounds.are_rounds.Given as goal

-- a scheduler of the workload that has made so many rounds at most
pub record Tried (W : Parts) (s : SchedulerValue) (rounds : ℕ) : Type 0 where
  pub scheduler : IsSchedulerOf W s
  pub stored : IsStored W s.number 2
  pub round : s.round ≤ rounds

abbrev pub invariant-loop-wanted : goal.invariant-loop-wanted
invariant-loop-wanted g l = record {
  scheduler : Tried l.w l.scheduler l.wanted-index;
  other : Tried l.w l.other l.wanted-index;
}
