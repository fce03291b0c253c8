use Rattle.std.proofs.Common.{◌≡◌, ◌%◌, ◌^◌, sum, take}
use Rattle.abt_callbacks.proofs.fold.PlainSumFold.fold.Given as goal

abbrev pub invariant-loop-value : goal.invariant-loop-value
invariant-loop-value l = l.sum ≡ sum (take l.value-index l.values) % 2 ^ 64
