-- The pools before are empty.
use Rattle.std.proofs.Common.{ℕ, ◌<◌, get_or}
use Rattle.abt_machine.specs.declared.numbers.PoolNo.{PoolNo}
use Rattle.abt_model.specs.Ends.{IsEmptyAt}
use Rattle.abt_model.proofs.ends.has_empty_pools.Given as goal

abbrev pub invariant-loop-p : goal.invariant-loop-p
invariant-loop-p l = (k : ℕ) (d : PoolNo) → k < l.p-index → IsEmptyAt l.objects (get_or l.p-items k d).0
