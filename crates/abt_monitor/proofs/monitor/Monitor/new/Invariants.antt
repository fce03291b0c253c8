use Rattle.std.proofs.Common.{◌≡◌, [], replicate}
use Rattle.abt_monitor.proofs.monitor.Monitor.new.Given as goal

abbrev pub invariant-loop : goal.invariant-loop
invariant-loop l = l.chains.items ≡ replicate l.counter []
