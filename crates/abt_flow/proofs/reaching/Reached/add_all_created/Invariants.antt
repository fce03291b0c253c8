use Rattle.abt_flow.specs.Tables.{Finds, Grows, HasMarked}
use Rattle.abt_flow.specs.declared.reaching.Reached.{Reached}
use Rattle.abt_machine.specs.declared.workload.Parts.{Parts}
use Rattle.std.proofs.Common.{ℕ}
use Rattle.abt_flow.proofs.reaching.Reached.add_all_created.Given as goal

pub record Goes (W : Parts) (u k : ℕ) (old new : Reached) : Type 0 where
  pub finds : Finds W new.units.items new.marks.items
  pub grows : Grows old.units.items old.marks.items new.units.items new.marks.items
  pub marked : HasMarked W new.marks.items u k

abbrev pub invariant-loop-k : goal.invariant-loop-k
invariant-loop-k l = Goes l.w l.u.0 l.k l.initial.self l.self
