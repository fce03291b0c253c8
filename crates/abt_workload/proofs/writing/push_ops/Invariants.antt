use Rattle.std.proofs.Common.{◌≡◌, ◌++◌, map, take}
use Rattle.abt_machine.specs.Canonical.{op_words}
use Rattle.abt_machine.specs.Words.{text_of}
use Rattle.abt_workload.proofs.writing.push_ops.Given as goal

abbrev pub invariant-loop-op : goal.invariant-loop-op
invariant-loop-op l = l.out.items ≡ l.fn.out.items ++ text_of (map (op_words l.w) (take l.op-index l.ops))
