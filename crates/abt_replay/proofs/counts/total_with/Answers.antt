use Rattle.std.proofs.Common.{arith}
use Rattle.abt_replay.proofs.Counting.{sum-low}
use Rattle.abt_replay.proofs.counts.total_with.Goals as goal

pub overflow_add-result : goal.overflow_add-result
overflow_add-result c = omega (arith, sum-low c.args.counts.now (λ k. (c.type_inv.counts k).fits) c.requires.few)
