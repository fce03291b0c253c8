use Rattle.std.proofs.Common.{ℕ, Contains, take}
use Rattle.abt_machine.specs.Rounds.{IsNextPool}
use Rattle.abt_order.specs.Schedulers.{pool_numbers}
use Rattle.abt_model.proofs.hints.first_next.Given as goal

abbrev pub invariant-loop-p : goal.invariant-loop-p
invariant-loop-p l = (p : ℕ) → Contains (pool_numbers (take l.p-index l.pools)) p → IsNextPool l.w l.z l.frame p → ⊥
