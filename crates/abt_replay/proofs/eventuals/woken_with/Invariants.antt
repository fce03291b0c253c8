use Rattle.std.proofs.Common.{◌≡◌, ◌++◌, length, map}
use Rattle.abt_machine.specs.Acts.{received}
use Rattle.abt_replay.proofs.eventuals.woken_with.Given as goal

abbrev pub invariant-loop-unit : goal.invariant-loop-unit
invariant-loop-unit l = l.woken.items ++ map (received l.value) l.waiters.items ≡ map (received l.value) l.fn.waiters.items

abbrev pub decreases-loop-unit : goal.decreases-loop-unit
decreases-loop-unit l = length l.waiters.items
