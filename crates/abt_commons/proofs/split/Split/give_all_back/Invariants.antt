-- The pass is seen as at the start.
use Rattle.std.proofs.Common.{◌≡◌}
use Rattle.abt_commons.proofs.split.Split.give_all_back.Given as goal

abbrev pub invariant-loop : goal.invariant-loop
invariant-loop g l = l.pass ≡ l.initial.pass
