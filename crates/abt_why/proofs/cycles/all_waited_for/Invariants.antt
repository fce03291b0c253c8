use Rattle.std.proofs.Common.{◌≡◌, map, take}
use Rattle.abt_why.specs.Cycles.{waited_for}
use Rattle.abt_why.proofs.cycles.all_waited_for.Given as goal

abbrev pub invariant-loop-wait : goal.invariant-loop-wait
invariant-loop-wait l = l.awaited.items ≡ map waited_for (take l.wait-index l.waits)
