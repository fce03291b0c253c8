use Rattle.std.proofs.Common.{◌≡◌, ◌++◌, length, map}
use Rattle.abt_machine.specs.Acts.{received}
use Rattle.abt_eventual.proofs.waking.woken_with.Given as goal

abbrev pub invariant-loop-unit : goal.invariant-loop-unit
invariant-loop-unit l = l.woken.units ++ map (received l.value) l.waiters.units ≡ map (received l.value) l.fn.waiters.units

abbrev pub decreases-loop-unit : goal.decreases-loop-unit
decreases-loop-unit l = length l.waiters.units
