use Rattle.std.proofs.Common.{◌≡◌, drop, flat_map}
use Rattle.abt_machine.specs.Checks.{after_said}
use Rattle.abt_machine.specs.Operations.{said_by}
use Rattle.abt_machine.proofs.validity.next_word.Given as goal

abbrev pub invariant-loop-op : goal.invariant-loop-op
invariant-loop-op l = after_said l.next (flat_map said_by (drop l.op-index l.ops)) ≡ after_said l.from (flat_map said_by l.ops)
