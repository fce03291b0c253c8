use Rattle.std.proofs.Common.{◌≡◌, ℕ, Some}
use Rattle.abt_machine.specs.declared.workload.Parts.{Parts}
use Rattle.abt_machine.specs.Workloads.{start_of}
use Rattle.abt_flow.specs.Tables.{Finds, IsClosedBelow, IsMarked}
use Rattle.abt_flow.specs.declared.reaching.Reached.{Reached}
use Rattle.abt_flow.proofs.reaching.Reached.find.Given as goal

pub record Goes (W : Parts) (at : ℕ) (reached : Reached) : Type 0 where
  pub finds : Finds W reached.units.items reached.marks.items
  pub starts : (u p : ℕ) → start_of W u ≡ Some p → IsMarked reached.marks.items u
  pub closed : IsClosedBelow W reached.units.items reached.marks.items at

abbrev pub invariant-loop-at : goal.invariant-loop-at
invariant-loop-at l = Goes l.w l.at l.reached
