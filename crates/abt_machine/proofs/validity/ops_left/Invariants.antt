use Rattle.std.proofs.Common.{◌≡◌, ◌+◌, drop, length}
use Rattle.abt_machine.specs.Workloads.{all_ops}
use Rattle.abt_machine.proofs.validity.ops_left.Given as goal

abbrev pub invariant-loop-part : goal.invariant-loop-part
invariant-loop-part l = l.left + length (all_ops l.units) ≡ l.room + length (all_ops (drop l.part-index l.units))
