use Rattle.std.proofs.Common.{◌≡◌, ◌++◌, map, take}
use Rattle.abt_machine.specs.declared.numbers.PoolNo.{PoolNo}
use Rattle.abt_workload.proofs.writing.add_listed.Given as goal

abbrev pub invariant-loop-p : goal.invariant-loop-p
invariant-loop-p l = l.numbers.items ≡ l.fn.numbers.items ++ map (λ (p : PoolNo). p.0) (take l.p-index l.pools)
