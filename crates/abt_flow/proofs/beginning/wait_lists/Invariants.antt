use Rattle.std.proofs.Common.{Vec, ◌≡◌, ℕ, ◌<◌, List, Some}
use Rattle.std.specs.Prelude.{slice_get}
use Rattle.std.specs.declared.alloc.Global.{Global}
use Rattle.abt_machine.specs.declared.numbers.UnitNo.{UnitNo}
use Rattle.abt_machine.specs.declared.workload.Parts.{Parts}
use Rattle.abt_flow.specs.Tables.{HasWaitedAll, Listed}
use Rattle.abt_flow.proofs.beginning.wait_lists.Given as goal

pub record Goes (W : Parts) (reached : List UnitNo) (n : ℕ) (waiting : List (Vec UnitNo Global)) : Type 0 where
  pub listed : Listed W waiting
  pub waited : (i : ℕ) (v : UnitNo) → i < n → slice_get reached i ≡ Some v → HasWaitedAll W waiting v.0

abbrev pub invariant-loop-u : goal.invariant-loop-u
invariant-loop-u l = Goes l.w l.reached l.u-index l.waiting.items
