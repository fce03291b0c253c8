use Rattle.std.proofs.Common.{◌≡◌, ◌++◌, take}
use Rattle.abt_machine.specs.Canonical.{sched_line}
use Rattle.abt_machine.specs.Words.{numbered, text_of}
use Rattle.abt_workload.proofs.writing.push_scheds.Given as goal

abbrev pub invariant-loop-g : goal.invariant-loop-g
invariant-loop-g l = l.out.items ≡ l.fn.out.items ++ text_of (numbered sched_line (take l.g l.w.scheds))
