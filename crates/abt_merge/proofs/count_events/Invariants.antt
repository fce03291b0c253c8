-- So far the events of the logs before are counted.
use Rattle.std.proofs.Common.{◌≡◌, map, take}
use Rattle.abt_merge.specs.Logs.{count_events}
use Rattle.abt_merge.proofs.count_events.Given as goal

abbrev pub invariant-loop-rest : goal.invariant-loop-rest
invariant-loop-rest l = l.count ≡ count_events (map (λ rest. rest.now) (take l.rest-index l.rests))
