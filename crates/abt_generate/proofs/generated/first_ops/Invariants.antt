use Rattle.std.proofs.Common.{◌≡◌, ◌++◌, map}
use Rattle.std.specs.List.{range_with_len}
use Rattle.abt_generate.proofs.GeneratedOps.{create, join}
use Rattle.abt_generate.specs.Generated.{adders}
use Rattle.abt_generate.proofs.generated.first_ops.Given as goal

abbrev pub invariant-loop-k : goal.invariant-loop-k
invariant-loop-k l = l.ops.items ≡ map create (range_with_len 1 l.k)

abbrev pub invariant-loop-k-2 : goal.invariant-loop-k-2
invariant-loop-k-2 l = l.ops.items ≡ map create (adders l.n) ++ map join (range_with_len 1 l.k)
