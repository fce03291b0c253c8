use Rattle.std.proofs.Common.{◌≢◌, take}
use Rattle.std.specs.Prelude.{AllPairs}
use Rattle.abt_machine.specs.declared.numbers.PoolNo.{PoolNo}
use Rattle.abt_machine.proofs.validity.are_distinct.Given as goal

abbrev pub invariant-loop-i : goal.invariant-loop-i
invariant-loop-i l = AllPairs (λ (a b : PoolNo). a.0 ≢ b.0) (take l.i l.pools)
