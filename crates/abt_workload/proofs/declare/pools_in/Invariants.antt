use Rattle.std.proofs.Common.{◌≡◌, map, take}
use Rattle.abt_machine.specs.Faults.{values}
use Rattle.abt_machine.specs.Numbers.{pool_no}
use Rattle.abt_workload.proofs.declare.pools_in.Given as goal

abbrev pub invariant-loop-n : goal.invariant-loop-n
invariant-loop-n l = l.pools.items ≡ map pool_no (values (take l.n-index l.numbers))
