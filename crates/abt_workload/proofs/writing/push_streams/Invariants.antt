use Rattle.std.proofs.Common.{◌≡◌, ◌++◌, take}
use Rattle.abt_machine.specs.Canonical.{stream_line}
use Rattle.abt_machine.specs.Words.{numbered, text_of}
use Rattle.abt_workload.proofs.writing.push_streams.Given as goal

abbrev pub invariant-loop-s : goal.invariant-loop-s
invariant-loop-s l = l.out.items ≡ l.fn.out.items ++ text_of (numbered stream_line (take l.s l.w.mains))
