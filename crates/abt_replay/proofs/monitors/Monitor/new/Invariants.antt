use Rattle.std.proofs.Common.{◌≡◌, [], replicate}
use Rattle.abt_replay.proofs.monitors.Monitor.new.Given as goal

abbrev pub invariant-loop : goal.invariant-loop
invariant-loop l = l.lists.items ≡ replicate l.counter []
