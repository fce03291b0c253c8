use Rattle.std.proofs.Common.{Vec, ℕ, List}
use Rattle.std.specs.declared.alloc.Global.{Global}
use Rattle.abt_machine.specs.declared.numbers.UnitNo.{UnitNo}
use Rattle.abt_machine.specs.declared.workload.Parts.{Parts}
use Rattle.abt_flow.specs.Tables.{HasWaited, Listed, Longer}
use Rattle.abt_flow.proofs.beginning.wait_unit.Given as goal

pub record Goes (W : Parts) (u k : ℕ) (old new : List (Vec UnitNo Global)) : Type 0 where
  pub listed : Listed W new
  pub longer : Longer old new
  pub waited : HasWaited W new u k

abbrev pub invariant-loop-k : goal.invariant-loop-k
invariant-loop-k l = Goes l.w l.u.0 l.k l.initial.waiting.items l.waiting.items
