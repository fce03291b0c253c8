-- The streams that are still to be looked at.
use Rattle.std.proofs.Common.{◌≡◌}
use Rattle.abt_waves.proofs.alone.first_with_work.Given as goal

abbrev pub invariant-loop-s : goal.invariant-loop-s
invariant-loop-s l = l.s-end ≡ l.w.streams
