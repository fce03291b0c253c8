-- So far the logs before are there.
use Rattle.std.proofs.Common.{◌≡◌, map, take}
use Rattle.abt_merge.proofs.rests_of.Given as goal

abbrev pub invariant-loop-log : goal.invariant-loop-log
invariant-loop-log l = map (λ rest. rest.now) l.rests.items ≡ take l.log-index l.logs
