use Rattle.std.proofs.Common.{◌≡◌, ◌++◌, take}
use Rattle.abt_machine.specs.Canonical.{pool_line}
use Rattle.abt_machine.specs.Words.{numbered, text_of}
use Rattle.abt_workload.proofs.writing.push_pools.Given as goal

abbrev pub invariant-loop-p : goal.invariant-loop-p
invariant-loop-p l = l.out.items ≡ l.fn.out.items ++ text_of (numbered pool_line (take l.p l.w.pools))
