use Rattle.std.proofs.Common.{◌≡◌, map, take}
use Rattle.abt_machine.specs.Declaring.{op_later}
use Rattle.abt_workload.proofs.declare.list_later.Given as goal

abbrev pub invariant-loop-op : goal.invariant-loop-op
invariant-loop-op l = l.later.items ≡ map (op_later l.n) (take l.op-index l.ops)
