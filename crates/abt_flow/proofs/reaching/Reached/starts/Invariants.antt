use Rattle.std.proofs.Common.{◌≡◌, ℕ, ◌<◌, Some}
use Rattle.abt_machine.specs.declared.workload.Parts.{Parts}
use Rattle.abt_machine.specs.Workloads.{start_of}
use Rattle.abt_flow.specs.Tables.{Finds, IsMarked}
use Rattle.abt_flow.specs.declared.reaching.Reached.{Reached}
use Rattle.abt_flow.proofs.reaching.Reached.starts.Given as goal

pub record Goes (W : Parts) (u : ℕ) (reached : Reached) : Type 0 where
  pub finds : Finds W reached.units.items reached.marks.items
  pub marked : (v : ℕ) → v < u → (p : ℕ) → start_of W v ≡ Some p → IsMarked reached.marks.items v

abbrev pub invariant-loop-u : goal.invariant-loop-u
invariant-loop-u l = Goes l.w l.u l.reached
