use Rattle.std.proofs.Common.{◌≡◌, ◌++◌, length}
use Rattle.std.specs.List.{find}
use Rattle.abt_machine.specs.Pools.{is_unit, without}
use Rattle.abt_replay.proofs.pools.remove.Given as goal

abbrev pub invariant-loop-unit : goal.invariant-loop-unit
invariant-loop-unit l = record {
  units : l.passed.items ++ l.units.items ≡ l.fn.units.items;
  found : find (is_unit l.u.0) l.units.items ≡ find (is_unit l.u.0) l.fn.units.items;
  others : without l.u.0 l.fn.units.items ≡ l.passed.items ++ without l.u.0 l.units.items;
}

abbrev pub decreases-loop-unit : goal.decreases-loop-unit
decreases-loop-unit l = length l.units.items
