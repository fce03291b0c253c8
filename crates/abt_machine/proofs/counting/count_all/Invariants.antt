-- The conditions among the objects seen are counted.
use Rattle.std.proofs.Common.{length, ◌≡◌}
use Rattle.abt_machine.specs.Counting.{AreCounted}
use Rattle.abt_machine.proofs.counting.count_all.Given as goal

abbrev pub invariant-loop-x : goal.invariant-loop-x
invariant-loop-x l = AreCounted l.things l.x l.counts × (l.x-end ≡ length l.things)
